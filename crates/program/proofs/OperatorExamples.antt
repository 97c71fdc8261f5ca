-- What holds of every line of an operator, and worked lines, computed by the definitions themselves.
use Rattle.std.proofs.Common.{◌≡◌, ℕ, List, [], ◌∷◌, true, false, Some, None, Ok, Err, inl, inr, refl}
use Rattle.std.specs.Prelude.{codes, length, nat_le}
use Rattle.std.specs.Str.{chars, is_utf8}
use lib.Utf8.{encode}
use Rattle.serve.specs.Operators.{new_operator, lone_operator}
use Rattle.serve.specs.declared.operators.Operator as serve
use Rattle.program.specs.LineFaults.{has_return}
use Rattle.program.specs.Operators.{AreOperators, operator_line}
use Rattle.program.specs.declared.line_faults.LineFault.TheVariants as fault

-- a line that ends with CR is refused for that, whatever else it has; then one of more than 4,096 bytes
return_refused : (before : List serve.Operator) (line : List ℕ) → has_return line ≡ true → operator_line before line ≡ Err fault.Return
return_refused before line is = rw is refl

long_refused : (before : List serve.Operator) (line : List ℕ) → has_return line ≡ false → nat_le (length line) 4096 ≡ false → operator_line before line ≡ Err fault.Long
long_refused before line is long = rw (is, long) refl

-- a secret alone is that of the operator `operator`
secret_alone : operator_line [] (codes "adminadminadmin1") ≡ Ok (lone_operator (codes "adminadminadmin1"))
unfolding chars is_utf8 encode
secret_alone = refl

with_name : operator_line [] (codes "ann adminadminadmin1") ≡ Ok (new_operator (codes "ann") (codes "adminadminadmin1") None false)
unfolding chars is_utf8 encode
with_name = refl

with_end : operator_line [] (codes "ann adminadminadmin1 until=1700000000") ≡ Ok (new_operator (codes "ann") (codes "adminadminadmin1") (Some 1_700_000_000) false)
unfolding chars is_utf8 encode
with_end = refl

may_list : operator_line [] (codes "eye listlistlistlist1 list") ≡ Ok (new_operator (codes "eye") (codes "listlistlistlist1") None true)
unfolding chars is_utf8 encode
may_list = refl

with_both : operator_line [] (codes "eye listlistlistlist1 until=0 list") ≡ Ok (new_operator (codes "eye") (codes "listlistlistlist1") (Some 0) true)
unfolding chars is_utf8 encode
with_both = refl

-- the words behind the secret in another order, a word too many, and another word
other_order : operator_line [] (codes "eye listlistlistlist1 list until=0") ≡ Err fault.Operator
unfolding chars is_utf8 encode
other_order = refl

one_too_many : operator_line [] (codes "eye listlistlistlist1 until=0 list x") ≡ Err fault.Operator
unfolding chars is_utf8 encode
one_too_many = refl

other_word : operator_line [] (codes "eye listlistlistlist1 lists") ≡ Err fault.Operator
unfolding chars is_utf8 encode
other_word = refl

-- an empty line and a remark are no operators
empty_line : operator_line [] [] ≡ Err fault.Secret
unfolding chars is_utf8 encode
empty_line = refl

remark : operator_line [] (codes "# ops") ≡ Err fault.Name
unfolding chars is_utf8 encode
remark = refl

-- the first word at fault
bad_name : operator_line [] (codes "Ann short until=x") ≡ Err fault.Name
unfolding chars is_utf8 encode
bad_name = refl

bad_secret : operator_line [] (codes "ann short until=x") ≡ Err fault.Secret
unfolding chars is_utf8 encode
bad_secret = refl

bad_end : operator_line [] (codes "ann adminadminadmin1 until=253402300800 list") ≡ Err fault.Until
unfolding chars is_utf8 encode
bad_end = refl

two_spaces : operator_line [] (codes "ann  adminadminadmin1") ≡ Err fault.Secret
unfolding chars is_utf8 encode
two_spaces = refl

no_utf8 : operator_line [] (255 ∷ []) ≡ Err fault.Encoding
unfolding chars is_utf8 encode
no_utf8 = refl

return_behind : operator_line [] (codes "adminadminadmin1\r") ≡ Err fault.Return
unfolding chars encode
return_behind = refl

-- each name stands once, also that of an operator whose secret stands alone
same_name : operator_line (new_operator (codes "ann") (codes "adminadminadmin1") None false ∷ []) (codes "ann secondsecondsec2") ≡ Err fault.SameName
unfolding chars is_utf8 encode
same_name = refl

same_name_unsaid : operator_line (lone_operator (codes "adminadminadmin1") ∷ []) (codes "secondsecondsec2") ≡ Err fault.SameName
unfolding chars is_utf8 encode
same_name_unsaid = refl

-- a whole input: one operator, and at the end nothing; or a line that is none
whole_input : AreOperators [] (codes "ann adminadminadmin1\n") (new_operator (codes "ann") (codes "adminadminadmin1") None false ∷ []) None
unfolding chars is_utf8 encode
whole_input = (codes "ann adminadminadmin1", [], refl, refl, (refl, refl))

bad_second : AreOperators [] (codes "ann adminadminadmin1\n\n") (new_operator (codes "ann") (codes "adminadminadmin1") None false ∷ []) (Some fault.Secret)
unfolding chars is_utf8 encode
bad_second = (codes "ann adminadminadmin1", codes "\n", refl, refl, inr ([], [], refl, refl))

-- no input has no operator
no_operator : AreOperators [] [] [] (Some fault.NoOperator)
no_operator = inl (refl, refl)
