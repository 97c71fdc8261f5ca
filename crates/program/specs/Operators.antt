-- The operators of the door, on standard input: one line for each.
use Rattle.std.specs.Prelude.{◌≡◌, ◌⊎◌, ◌++◌, ℕ, List, [], ◌∷◌, Bool, true, false, Option, Some, None, Result, Ok, Err, cond, nat_eq, nat_le, length, bytes_eq, codes, ⊤}
use Rattle.std.specs.List.{list_any, starts_with}
use Rattle.basis.specs.Names.{is_org_name, is_secret}
use Rattle.serve.specs.Bounds.{until_word}
use Rattle.serve.specs.Operators.{new_operator, lone_operator}
use Rattle.serve.specs.Words.{words_of}
use Rattle.serve.specs.declared.operators.Operator as serve
use Rattle.program.specs.Batches.{line_and_rest}
use Rattle.program.specs.LineFaults.{has_return}
use Rattle.program.specs.declared.line_faults.LineFault.{LineFault}
use Rattle.program.specs.declared.line_faults.LineFault.TheVariants.{Return, Long, Encoding, Operator, SameName, SameSecret, ManyOperators, NoOperator, Name, Secret, Until}
use Rattle.program.specs.declared.operators.OperatorUnread.{OperatorUnread}
use Rattle.program.specs.declared.operators.OperatorUnread.TheVariants.{Fault, Down}
use Rattle.program.specs.declared.operators.Terms.{Terms}

-- a check that is passed, and what follows it
abbrev pub after : {A B : Type 0} → Result A LineFault → (A → Result B LineFault) → Result B LineFault
after (Ok a) next = next a
after (Err fault) next = Err fault

-- what is read is this, or this is at fault in it, unless memory was refused
abbrev pub ReadsAs : {A : Type 0} → Result A OperatorUnread → Result A LineFault → Type 0
ReadsAs (Ok a) wanted = wanted ≡ Ok a
ReadsAs (Err (Fault fault)) wanted = wanted ≡ Err fault
ReadsAs (Err Down) wanted = ⊤

abbrev pub name_word : List ℕ → Result (List ℕ) LineFault
name_word word = cond (is_org_name word) (Ok word) (Err Name)

abbrev pub secret_word : List ℕ → Result (List ℕ) LineFault
secret_word word = cond (is_secret word) (Ok word) (Err Secret)

-- a word that is not `until=SECONDS`: its value is at fault if it begins like that
abbrev pub until_fault : List ℕ → LineFault
until_fault word = cond (starts_with nat_eq word (codes "until=")) Until Operator

abbrev pub terms_until : Option ℕ → List ℕ → Bool → Result Terms LineFault
terms_until (Some until) word lists_only = Ok (record { until = Some until; lists_only = lists_only })
terms_until None word lists_only = Err (until_fault word)

abbrev pub until_or_fault : List ℕ → Bool → Result Terms LineFault
until_or_fault word lists_only = terms_until (until_word word) word lists_only

-- the words behind a secret: `until=SECONDS` and `list`, in this order, each optional
abbrev pub terms_of : List (List ℕ) → Result Terms LineFault
terms_of [] = Ok (record { until = None; lists_only = false })
terms_of (word ∷ []) = cond (bytes_eq word (codes "list")) (Ok (record { until = None; lists_only = true })) (until_or_fault word false)
terms_of (first ∷ second ∷ []) = cond (bytes_eq second (codes "list")) (until_or_fault first true) (Err Operator)
terms_of (first ∷ second ∷ third ∷ words) = Err Operator

-- `SECRET`
abbrev pub lone : List ℕ → Result serve.Operator LineFault
lone word = after (secret_word word) (λ secret. Ok (lone_operator secret))

-- `NAME SECRET`, then these words
abbrev pub named : List ℕ → List ℕ → List (List ℕ) → Result serve.Operator LineFault
named name secret words =
    after (name_word name) (λ n.
    after (secret_word secret) (λ s.
    after (terms_of words) (λ terms.
    Ok (new_operator n s terms.until terms.lists_only))))

-- the operator of these words, or the first of them at fault, from the left
abbrev pub operator_of : List (List ℕ) → Result serve.Operator LineFault
operator_of [] = Err Operator
operator_of (secret ∷ []) = lone secret
operator_of (name ∷ secret ∷ words) = named name secret words

-- one that comes after at most 99 others, none of which has the same name or the same secret
abbrev pub apart : List serve.Operator → serve.Operator → Result serve.Operator LineFault
apart before operator =
    cond (nat_le 100 (length before)) (Err ManyOperators)
    (cond (list_any (λ (o : serve.Operator). bytes_eq o.name operator.name) before) (Err SameName)
    (cond (list_any (λ (o : serve.Operator). bytes_eq o.digest operator.digest) before) (Err SameSecret)
    (Ok operator)))

abbrev pub words_line : List serve.Operator → Option (List (List ℕ)) → Result serve.Operator LineFault
words_line before None = Err Encoding
words_line before (Some words) = after (operator_of words) (apart before)

-- the operator that a line of at most 4,096 bytes is, after these, or what is at fault in it
abbrev pub operator_line : List serve.Operator → List ℕ → Result serve.Operator LineFault
operator_line before line = cond (has_return line) (Err Return) (cond (nat_le (length line) 4096) (words_line before (words_of line)) (Err Long))

-- behind the last line nothing is at fault, if there was one
abbrev pub end_fault : List serve.Operator → Option LineFault
end_fault [] = Some NoOperator
end_fault (operator ∷ operators) = None

-- at the end is nothing; or a line that is no operator after these, with this fault
abbrev pub Ends : List serve.Operator → List ℕ → Option LineFault → Type 0
Ends before bytes None = (bytes ≡ []) × (end_fault before ≡ None)
Ends before bytes (Some fault) =
    ((bytes ≡ []) × (end_fault before ≡ Some fault)) ⊎ ((line : List ℕ) × (rest : List ℕ) × (line_and_rest bytes ≡ Some (line, rest)) × (operator_line before line ≡ Err fault))

-- the lines of the bytes are these operators, in order, after those before; and then nothing follows, or a line that is none, with this fault
abbrev pub AreOperators : List serve.Operator → List ℕ → List serve.Operator → Option LineFault → Type 0
AreOperators before bytes [] fault = Ends before bytes fault
AreOperators before bytes (operator ∷ operators) fault =
    (line : List ℕ) × (rest : List ℕ) × (line_and_rest bytes ≡ Some (line, rest)) × (operator_line before line ≡ Ok operator) × AreOperators (before ++ operator ∷ []) rest operators fault
