-- Why a text isn't a value, in words.
use Rattle.std.specs.Prelude.{ℕ, List, codes}
use Rattle.basis.specs.declared.memory.Unfit.{Unfit}
use Rattle.basis.specs.declared.memory.Unfit.TheVariants.{Syntax, Down}

abbrev pub unfit_text : Unfit → List ℕ
unfit_text Syntax = codes "the text isn't of the syntax"
unfit_text Down = codes "memory was refused"
