use Rattle.std.specs.Prelude.{◌≡◌, ◌⊎◌, ◌++◌, ◌∷◌, [], if◌then◌else◌, not, nat_lt, List, length, Option, None, Some, Result, Ok, Err}
use Rattle.std.specs.Option.{option_or}
use Rattle.package_fields.specs.declared.field.Field.{Field}
use Rattle.package_fields.specs.declared.field.Package.{Package}
use Rattle.package_fields.specs.declared.fault.FieldFault.{FieldFault}
use Rattle.package_fields.specs.declared.fault.FieldFault.TheVariants.{Twice, BadFlags, TooMany, NoMemory}
use Rattle.package_fields.specs.Flags.{permitted}
use Rattle.package_fields.specs.Fields.{Registered, has_label, is_among}

-- why a field may not follow these fields: its flags, its label, their number
abbrev pub field_fault : List Field → Field → Option FieldFault
field_fault before f =
    if not (permitted f.flags)
    then Some (BadFlags f.base)
    else (if has_label before f.label
    then Some (Twice f.label)
    else (if nat_lt (length before) 256 then None else Some (TooMany 257)))

-- the first fault of fields that follow these in order
abbrev pub fields_fault : List Field → List Field → Option FieldFault
fields_fault before [] = None
fields_fault before (f ∷ fs) = option_or (field_fault before f) (fields_fault (before ++ f ∷ []) fs)

-- the first fault of a package that is to be added: its name, then its fields in order
abbrev pub package_fault : Registered → Package → Option FieldFault
package_fault r p =
    if is_among r.packages p.name then Some (Twice p.name) else fields_fault r.fields p.fields

-- the registry with a package at its end
abbrev pub with_package : Registered → Package → Registered
with_package r p = record { packages = r.packages ++ p.name ∷ []; fields = r.fields ++ p.fields }

-- the call is refused with this fault, where there is one, or for want of memory
abbrev pub Fails : {T : Type 0} → Option FieldFault → Result T FieldFault → Type 0
Fails fault (Ok _) = fault ≡ None
Fails fault (Err e) = (e ≡ NoMemory) ⊎ (fault ≡ Some e)
