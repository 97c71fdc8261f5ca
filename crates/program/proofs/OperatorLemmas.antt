-- The operators on standard input.
use Rattle.std.proofs.Common.{◌≡◌, ◌<◌, inl, inr, ℕ, Bool, true, false, List, [], ◌++◌, length, Option, Some, None, IfSome, Err, sym, subst, append-nil}
use Rattle.serve.specs.declared.doors.Door.{Door}
use Rattle.serve.specs.declared.operators.Operator.{Operator}
use Rattle.program.specs.Batches.{line_and_rest, bad_text}
use Rattle.program.specs.Errors.{long_operators_line}
use Rattle.program.specs.Inner.Doors.{IsBadLine, OpensDoor}
use Rattle.program.specs.Inner.Outcomes.{IsSaidWhy}
use Rattle.program.specs.Operators.{ReadsAs, operator_line, end_fault, Ends, AreOperators}
use Rattle.program.specs.Outcomes.{Stream, Errors, IsSaid, HasDoor, IsDoor, RefusesOperators}
use Rattle.program.specs.Streams.{Reports}
use Rattle.program.specs.declared.exits.Exit.{Exit}
use Rattle.program.specs.declared.exits.Exit.TheVariants.{Usage}
use Rattle.program.specs.declared.line_faults.LineFault.{LineFault}
use Rattle.program.specs.declared.operators.OperatorUnread.{OperatorUnread}
use Rattle.program.specs.declared.operators.OperatorUnread.TheVariants.{Fault}
use Rattle.program.specs.declared.starting.Unopened.{Unopened}
use Rattle.program.specs.declared.starting.Unopened.TheVariants.{Line, Long}

-- what the rest turns out to be, behind these operators, follows them in all
abbrev pub Follow : List ℕ → List Operator → List ℕ → Type 0
Follow bytes operators rest = (more : List Operator) (fault : Option LineFault) → AreOperators operators rest more fault → AreOperators [] bytes (operators ++ more) fault

-- the end of the rest is the end of all
pub operators_end : (bytes : List ℕ) (operators : List Operator) (rest : List ℕ) (fault : Option LineFault) → Follow bytes operators rest → Ends operators rest fault → AreOperators [] bytes operators fault
operators_end bytes operators rest fault h e = subst (λ (all : List Operator). AreOperators [] bytes all fault) (append-nil operators) (h [] fault e)

-- the line that follows is none
pub operator_fault : (bytes : List ℕ) (operators before : List Operator) (rest line left : List ℕ) (unread : OperatorUnread) (fault : LineFault) → Follow bytes operators rest
    → line_and_rest rest ≡ Some (line, left) → before ≡ operators → ReadsAs {A = Operator} (Err unread) (operator_line before line) → unread ≡ Fault fault → AreOperators [] bytes operators (Some fault)
operator_fault bytes operators before rest line left unread fault h parts same why is =
    let known : operator_line before line ≡ Err fault = subst (λ (u : OperatorUnread). ReadsAs {A = Operator} (Err u) (operator_line before line)) is why in
    operators_end bytes operators rest (Some fault) h (inr (line, left, parts, subst (λ (b : List Operator). operator_line b line ≡ Err fault) same known))

-- no line follows
pub no_operator : (bytes : List ℕ) (operators : List Operator) (rest : List ℕ) (found : Option LineFault) → Follow bytes operators rest → rest ≡ [] → found ≡ end_fault operators → AreOperators [] bytes operators found
no_operator bytes operators rest None h none is = operators_end bytes operators rest None h (none, sym is)
no_operator bytes operators rest (Some fault) h none is = operators_end bytes operators rest (Some fault) h (inl (none, sym is))

-- whoever has the door that is asked for has its operators
pub has_door : (operates : Bool) (input : Option (List ℕ)) (door : Door) → IsDoor operates input door → HasDoor operates input
has_door true input door is = (is.0, is.1)
has_door false input door is = tt

-- a line is at fault
pub refused_line : (input : Option (List ℕ)) (number : ℕ) (fault : LineFault) (e : Exit) (output : Stream) (errors : Errors) → IsBadLine input number fault → IsSaid Usage e output.old output.new → Reports errors.old errors.new (bad_text number fault)
    → RefusesOperators input e output errors
refused_line input number fault e output errors bad said reported =
    (said, inl (bad.0, fault, bad.1, subst (λ (n : ℕ). Reports errors.old errors.new (bad_text n fault)) bad.2 reported))

pub refused_door : (operates : Bool) (input : Option (List ℕ)) (unopened : Unopened) (number : ℕ) (fault : LineFault) (e : Exit) (output : Stream) (errors : Errors) → OpensDoor operates input (Err unopened) → unopened ≡ Line number fault
    → IsSaid Usage e output.old output.new → Reports errors.old errors.new (bad_text number fault) → RefusesOperators input e output errors
refused_door operates input unopened number fault e output errors opens is said reported =
    let bad : IsBadLine input number fault = subst (λ (u : Unopened). OpensDoor operates input (Err u)) is opens in
    refused_line input number fault e output errors bad said reported

said_why : (e result : Exit) (output : Stream) (errors : Errors) → IsSaidWhy e result output errors → IsSaid e result output.old output.new
said_why e result output errors (inl said) = inl (said.0, said.1)
said_why e result output errors (inr unprinted) = inr unprinted

-- or the input is too long
pub refused_long : (operates : Bool) (input : Option (List ℕ)) (unopened : Unopened) (e : Exit) (output : Stream) (errors : Errors) → OpensDoor operates input (Err unopened) → unopened ≡ Long
    → IsSaidWhy Usage e output errors → Reports errors.old errors.new long_operators_line → RefusesOperators input e output errors
refused_long operates input unopened e output errors opens is said reported =
    let long : IfSome input (λ bytes. 65_536 < length bytes) = subst (λ (u : Unopened). OpensDoor operates input (Err u)) is opens in
    (said_why Usage e output errors said, inr (long, reported))
