-- A flag, as a function and as a relation; and what an option comes from.
use Rattle.docs.proofs.Outside.{◌≡◌, refl, sym, ap, Bool, Option, Some, None, option_map, Data, null, boolean, number, string, array, object, as_bool}
use Rattle.docs.specs.Flags.{flag_of, IsFlag}

-- what is there comes from what is there
pub option_map_some : {A B P : Type 0} (f : A → B) (o : Option A) (y : B) → option_map f o ≡ Some y → ((x : A) → o ≡ Some x → f x ≡ y → P) → P
option_map_some f None y is k = absurd (cc)
option_map_some f (Some x) y is k = k x refl (cc)

boolean_as : (d : Data) (b : Bool) → as_bool d ≡ Some b → d ≡ boolean b
boolean_as (boolean c) b is = cc
boolean_as null b is = absurd (cc)
boolean_as (number n) b is = absurd (cc)
boolean_as (string s) b is = absurd (cc)
boolean_as (array ds) b is = absurd (cc)
boolean_as (object ms) b is = absurd (cc)

pub flag_read : (found : Option Data) (flag : Bool) → flag_of found ≡ Some flag → IsFlag found flag
flag_read None flag is = cc
flag_read (Some value) flag is = boolean_as value flag is

pub flag_said : (found : Option Data) (flag : Bool) → IsFlag found flag → flag_of found ≡ Some flag
flag_said None flag is = ap Some (sym is)
flag_said (Some value) flag is = rw is refl
