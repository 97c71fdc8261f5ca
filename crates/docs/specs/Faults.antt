-- Why a document wasn't read, in words.
use Rattle.std.specs.Prelude.{ℕ, List, codes}
use Rattle.docs.specs.declared.faults.DocFault.{DocFault}
use Rattle.docs.specs.declared.faults.DocFault.TheVariants.{Bad, Down}

abbrev pub fault_text : DocFault → List ℕ
fault_text Bad = codes "the bytes aren't such a document"
fault_text Down = codes "memory was refused"
