-- What a text means, from what its syntax tree means.
use Rattle.statements.proofs.Outside.{◌≡◌, ℕ, false, List, [], None, Ok, Err, refl, Statement, Parsed, Schema, Command, Checked, first, command, returning, timed, meaning, planned, compiled, with_command, understood, reads_listing, IsPlain, command_of}
use Rattle.sqlite_ast.specs.declared.Statement.TheVariants.{Empty}

-- The text is this command, it shows no row of a write and reads no clock, and it is no query on the list of tables.
abbrev pub Means : Schema → Command → List ℕ → Type 0
Means s c text = (command_of (understood s text) ≡ c) × IsPlain (understood s text) × (reads_listing s text ≡ false)

abbrev pub no_parsed : Parsed
no_parsed = record { statement = Empty; names = []; formats = []; start = 0; end = 0; tail = 0 }

abbrev pub some_parsed : Checked Parsed → Parsed
some_parsed (Ok p) = p
some_parsed (Err e) = no_parsed

abbrev pub as_read : Parsed → Statement → Parsed
as_read p st = record p { statement = st; formats = [] }

-- the text is this statement, whatever its blanks
abbrev pub IsText : List ℕ → Statement → Type 0
IsText text st = first text ≡ Ok (as_read (some_parsed (first text)) st)

module _ (s : Schema) (st : Statement) (c : Command) (timeless : timed s [] st ≡ []) (silent : (base : ℕ) → returning s base st ≡ Ok None) (is : (base : ℕ) → command s [] base st ≡ Ok c)
    (text : List ℕ) (p : Parsed) (reads : first text ≡ Ok (as_read p st)) where
  whole : compiled s text ≡ Ok (with_command (as_read p st) ([], (c, None)))
  unfolding compiled planned meaning
  whole = rw (reads, timeless, silent, is) refl

  meant : Means s c text
  unfolding understood
  meant = rw whole (refl, (refl, refl), refl)

pub means : {c : Command} (s : Schema) (text : List ℕ) (st : Statement) → IsText text st → timed s [] st ≡ [] → ((base : ℕ) → returning s base st ≡ Ok None) → ((base : ℕ) → command s [] base st ≡ Ok c) → Means s c text
means {c} s text st reads timeless silent is = meant s st c timeless silent is text (some_parsed (first text)) reads
