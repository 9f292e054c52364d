use Rattle.std.proofs.Common.{◌≡◌, ◌<◌, ◌++◌, ◌∷◌, [], ℕ, Bool, true, false, not, cond, ltb, List, length, Option, None, Some, refl, sym, ◌∙◌, subst, arith, append_assoc, length-append}
use Rattle.std.specs.Option.{option_or}
use Rattle.std.specs.List.{list_any, IsDistinct}
use Rattle.std.specs.Str.{bytes_eq}
use Rattle.std.specs.Cmp.Lexicographic.{nat_list_eq_equiv}
use Rattle.std.proofs.lemmas.List.{map-append, append-nil}
use Rattle.std.proofs.lemmas.List.Elements.{All-push, All-nil}
use Rattle.std.proofs.lemmas.Map.Keys.{IsDistinct-push}
use Rattle.std.proofs.lemmas.Bool.Decides.{nat_tests}
use Rattle.package_fields.specs.declared.field.Field.{Field}
use Rattle.package_fields.specs.declared.field.Package.{Package}
use Rattle.package_fields.specs.Flags.{permitted}
use Rattle.package_fields.specs.Fields.{Registered, IsSound, labels, is_among, has_label}
use Rattle.package_fields.specs.Registered.{field_fault, fields_fault, package_fault}

-- a registry with nothing in it keeps its facts
pub IsSound-empty : IsSound [] []
unfolding IsDistinct
IsSound-empty = record { packages_differ = tt; labels_differ = tt; all_permitted = All-nil _; few = omega arith }

-- a label is among the labels exactly where a field has it
list_any-labels : (fields : List Field) (label : List ℕ) → list_any (bytes_eq label) (labels fields) ≡ has_label fields label
list_any-labels [] label = refl
list_any-labels (f ∷ fs) label = rw (list_any-labels fs label)

-- a chain of three tests that finds no fault passed all three
passed : {E : Type 0} (a b c : Bool) (x y z : E) → cond (not a) (Some x) (cond b (Some y) (cond c None (Some z))) ≡ None → (a ≡ true) × (b ≡ false) × (c ≡ true)
passed true false true x y z e = (refl, refl, refl)
passed true false false x y z e = cc
passed true true c x y z e = cc
passed false b c x y z e = cc

-- neither of two found a fault
both_none : {E : Type 0} (a b : Option E) → option_or a b ≡ None → (a ≡ None) × (b ≡ None)
both_none None b e = (refl, e)
both_none (Some x) b e = cc

-- a field that meets no fault may follow
IsSound-field : (names : List (List ℕ)) (before : List Field) (f : Field) → IsSound names before → field_fault before f ≡ None → IsSound names (before ++ f ∷ [])
IsSound-field names before f s none =
    let t = passed (permitted f.flags) (has_label before f.label) (ltb (length before) 256) _ _ _ none in
    record {
      packages_differ = s.packages_differ;
      labels_differ = rw (map-append (λ (g : Field). g.label) before (f ∷ [])) (IsDistinct-push nat_list_eq_equiv (labels before) f.label s.labels_differ (list_any-labels before f.label ∙ t.1));
      all_permitted = All-push (λ (g : Field). permitted g.flags ≡ true) before f s.all_permitted t.0;
      few = (let c : length before < 256 = grind (arith, nat_tests) in omega (arith, length-append before (f ∷ [])));
    }

-- fields that meet no fault may follow
IsSound-fields : (names : List (List ℕ)) (before fields : List Field) → IsSound names before → fields_fault before fields ≡ None → IsSound names (before ++ fields)
IsSound-fields names before [] s none = subst (IsSound names) (sym (append-nil before)) s
IsSound-fields names before (f ∷ fs) s none =
    let t = both_none (field_fault before f) _ none in
    subst (IsSound names) (append_assoc before (f ∷ []) fs) (IsSound-fields names (before ++ f ∷ []) fs (IsSound-field names before f s t.0) t.1)

-- a name that is not among the names, or else a fault
unless_among : {E : Type 0} (a : Bool) (x : E) (b : Option E) → cond a (Some x) b ≡ None → (a ≡ false) × (b ≡ None)
unless_among true x b e = cc
unless_among false x b e = (refl, e)

-- a package that meets no fault may be added
pub IsSound-package : (r : Registered) (p : Package) → IsSound r.packages r.fields → package_fault r p ≡ None → IsSound (r.packages ++ p.name ∷ []) (r.fields ++ p.fields)
IsSound-package r p s none =
    let t = unless_among (is_among r.packages p.name) _ (fields_fault r.fields p.fields) none in
    let u = IsSound-fields r.packages r.fields p.fields s t.1 in
    record {
      packages_differ = IsDistinct-push nat_list_eq_equiv r.packages p.name s.packages_differ t.0;
      labels_differ = u.labels_differ;
      all_permitted = u.all_permitted;
      few = u.few;
    }

-- the same of the lists that adding leaves
pub IsSound-after : (names names' : List (List ℕ)) (fields fields' : List Field) (p : Package) → IsSound names fields → package_fault (record { packages = names; fields = fields }) p ≡ None → names' ≡ names ++ p.name ∷ [] → fields' ≡ fields ++ p.fields → IsSound names' fields'
IsSound-after names names' fields fields' p s none e u = rw (e, u) (IsSound-package (record { packages = names; fields = fields }) p s none)
