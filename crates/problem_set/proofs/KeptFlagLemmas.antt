-- A registry takes or refuses a package alike, whether flags that are not permitted are kept or not.
use Rattle.std.proofs.Common.{◌≡◌, ◌<◌, ◌≤◌, ◌+◌, ◌-◌, ◌++◌, ◌∷◌, [], ℕ, zero, suc, nat_lt, length, take, take_all, arith, length-append, Ok, Bool, true, false, not, cond, List, map, Option, None, Some, Result, Err, ◌⊎◌, inl, inr, refl, sym, ap, ◌∙◌}
use Rattle.std.specs.List.{flat_map}
use Rattle.std.specs.Option.{option_or}
use Rattle.std.proofs.lemmas.List.{map-append}
use Rattle.std.proofs.lemmas.Bool.Decides.{nat_tests}
use Rattle.input_file.specs.Texts.{Text}
use Rattle.package_fields.specs.declared.field.Field.{Field}
use Rattle.package_fields.specs.declared.field.Package.{Package}
use Rattle.package_fields.specs.declared.fault.FieldFault.{FieldFault}
use Rattle.package_fields.specs.declared.fault.FieldFault.TheVariants.{Twice, BadFlags, TooMany}
use Rattle.package_fields.specs.declared.flag.Flag.{Flag}
use Rattle.package_fields.specs.declared.flag.Flag.TheVariants.{Sparse}
use Rattle.package_fields.specs.Flags.{has, permitted}
use Rattle.package_fields.specs.Fields.{Registered, is_among, has_label}
use Rattle.package_fields.specs.Registered.{field_fault, fields_fault, with_package}
use Rattle.deck_values.specs.declared.fault.ProblemFault.{ProblemFault}
use Rattle.deck_values.specs.declared.fault.ProblemFault.TheVariants.{NoMemory}
use Rattle.deck_entries.specs.declared.field_blocks.FieldBlock.{FieldBlock}
use Rattle.deck_entries.specs.FieldBlocks.{fields_of, dense_field, pool_field}
use Rattle.problem_set.specs.Kept.{kept_fields, kept_flags}
use Rattle.problem_set.specs.Packages.{blocks_of, package_of, package_moves, unless, with_added}
use Rattle.problem_set.specs.PackageBlocks.{most_gathered}
use Rattle.problem_set.proofs.PackageLemmas.{length_moves}

-- a field with the flags that are kept
abbrev kept : Field → Field
kept f = record f { flags = kept_flags f.flags }

kept_pool : (name : Text) (flags : List Flag) (ids : List ℕ) → map (pool_field name (kept_flags flags)) ids ≡ map kept (map (pool_field name flags) ids)
kept_pool name flags [] = refl
kept_pool name flags (id ∷ ids) = ap (λ (l : List Field). pool_field name (kept_flags flags) id ∷ l) (kept_pool name flags ids)

kept_block : (b : FieldBlock) (sparse : Bool) → cond sparse (map (pool_field b.name (kept_flags b.flags)) b.ids) (dense_field b.name (kept_flags b.flags) ∷ []) ≡ map kept (cond sparse (map (pool_field b.name b.flags) b.ids) (dense_field b.name b.flags ∷ []))
kept_block b true = kept_pool b.name b.flags b.ids
kept_block b false = refl

-- the kept fields of some blocks are their fields, kept
kept_blocks : (bs : List FieldBlock) → flat_map kept_fields bs ≡ map kept (flat_map fields_of bs)
kept_blocks [] = refl
kept_blocks (b ∷ bs) =
    ap (λ (l : List Field). l ++ flat_map kept_fields bs) (kept_block b (has Sparse b.flags))
    ∙ ap (λ (l : List Field). map kept (fields_of b) ++ l) (kept_blocks bs)
    ∙ sym (map-append kept (fields_of b) (flat_map fields_of bs))

kept_same : (f : Field) → permitted f.flags ≡ true → kept f ≡ f
kept_same f e = ap (λ (b : Bool). record f { flags = cond b f.flags [] }) e

-- a field meets the same fault
fault_by : (before : List Field) (f : Field) (b : Bool) → permitted f.flags ≡ b → field_fault before (kept f) ≡ field_fault before f
fault_by before f true e = ap (field_fault before) (kept_same f e)
fault_by before f false e = rw (e) refl

fault_kept : (before : List Field) (f : Field) → field_fault before (kept f) ≡ field_fault before f
fault_kept before f = fault_by before f (permitted f.flags) refl

-- a field without a fault has permitted flags
permitted_by : (b : Bool) (fault : FieldFault) (rest : Option FieldFault) → cond (not b) (Some fault) rest ≡ None → b ≡ true
permitted_by true fault rest e = refl
permitted_by false fault rest e = cc

no_fault : (before : List Field) (f : Field) → field_fault before f ≡ None → permitted f.flags ≡ true
no_fault before f e = permitted_by (permitted f.flags) _ _ e

both_none : (a b : Option FieldFault) → option_or a b ≡ None → (a ≡ None) × (b ≡ None)
both_none None b e = (refl, e)
both_none (Some x) b e = cc

-- fields meet the same first fault
faults_by : (before : List Field) (f : Field) (fs : List Field) (a : Option FieldFault) → field_fault before f ≡ a → fields_fault (before ++ f ∷ []) (map kept fs) ≡ fields_fault (before ++ f ∷ []) fs → fields_fault before (map kept (f ∷ fs)) ≡ fields_fault before (f ∷ fs)
faults_by before f fs (Some x) e rest =
    ap (λ (o : Option FieldFault). option_or o (fields_fault (before ++ kept f ∷ []) (map kept fs))) (fault_kept before f ∙ e)
    ∙ sym (ap (λ (o : Option FieldFault). option_or o (fields_fault (before ++ f ∷ []) fs)) e)
faults_by before f fs None e rest =
    ap (λ (g : Field). option_or (field_fault before g) (fields_fault (before ++ g ∷ []) (map kept fs))) (kept_same f (no_fault before f e))
    ∙ ap (option_or (field_fault before f)) rest

faults_kept : (before fs : List Field) → fields_fault before (map kept fs) ≡ fields_fault before fs
faults_kept before [] = refl
faults_kept before (f ∷ fs) = faults_by before f fs (field_fault before f) refl (faults_kept (before ++ f ∷ []) fs)

-- fields without a fault are kept as they are
all_kept : (before fs : List Field) → fields_fault before fs ≡ None → map kept fs ≡ fs
all_kept before [] e = refl
all_kept before (f ∷ fs) e =
    let t = both_none (field_fault before f) (fields_fault (before ++ f ∷ []) fs) e in
    ap (λ (g : Field). g ∷ map kept fs) (kept_same f (no_fault before f t.0))
    ∙ ap (λ (gs : List Field). f ∷ gs) (all_kept (before ++ f ∷ []) fs t.1)

abbrev named : Text → List Field → Package
named n fs = record { name = n; fields = fs }

added_by : (r : Registered) (n : Text) (fs gs : List Field) (known : Bool) (o p : Option FieldFault) → p ≡ o → (o ≡ None → gs ≡ fs) → unless (cond known (Some (Twice n)) p) (with_package r (named n gs)) ≡ unless (cond known (Some (Twice n)) o) (with_package r (named n fs))
added_by r n fs gs true o p e same = refl
added_by r n fs gs false (Some x) p e same = ap (λ (q : Option FieldFault). unless q (with_package r (named n gs))) e
added_by r n fs gs false None p e same =
    ap (λ (q : Option FieldFault). unless q (with_package r (named n gs))) e
    ∙ ap (λ (l : List Field). unless None (with_package r (named n l))) (same refl)

-- a registry takes or refuses the package of an package_name with kept flags as it does the package itself
with_added_kept : (r : Registered) (blocks : List FieldBlock) (package_name : Text) → with_added r (named package_name (flat_map kept_fields (blocks_of blocks package_name))) ≡ with_added r (package_of blocks package_name)
with_added_kept r blocks package_name =
    let fs = flat_map fields_of (blocks_of blocks package_name) in
    ap (λ (l : List Field). with_added r (named package_name l)) (kept_blocks (blocks_of blocks package_name))
    ∙ added_by r package_name fs (map kept fs) (is_among r.packages package_name) (fields_fault r.fields fs) (fields_fault r.fields (map kept fs)) (faults_kept r.fields fs) (all_kept r.fields fs)

-- a test that is passed
passed_by : (b : Bool) (x y : FieldFault) (c d : Bool) → cond b (Some x) (cond c (Some y) (cond d None (Some (TooMany 257)))) ≡ None → d ≡ true
passed_by true x y c d e = cc
passed_by false x y true d e = cc
passed_by false x y false true e = refl
passed_by false x y false false e = cc

-- a field without a fault has room
fault_room : (before : List Field) (f : Field) → field_fault before f ≡ None → length before < 256
fault_room before f e = let t = passed_by (not (permitted f.flags)) (BadFlags f.base) (Twice f.label) (has_label before f.label) (nat_lt (length before) 256) e in grind (arith, nat_tests)

-- fields without a fault are few
faults_few : (before fs : List Field) → fields_fault before fs ≡ None → length fs ≤ 256 - length before
faults_few before [] e = omega arith
faults_few before (f ∷ fs) e =
    let t = both_none (field_fault before f) (fields_fault (before ++ f ∷ []) fs) e in
    omega (arith, fault_room before f t.0, faults_few (before ++ f ∷ []) fs t.1, length-append before (f ∷ []))

-- a first fault is among the first fields, of which there are more than there is room for
faults_first_by : (before : List Field) (f : Field) (fs : List Field) (k : ℕ) (a : Option FieldFault) → field_fault before f ≡ a → (length before < 256 → fields_fault (before ++ f ∷ []) (take k fs) ≡ fields_fault (before ++ f ∷ []) fs) → fields_fault before (f ∷ take k fs) ≡ fields_fault before (f ∷ fs)
faults_first_by before f fs k (Some x) e rest =
    ap (λ (o : Option FieldFault). option_or o (fields_fault (before ++ f ∷ []) (take k fs))) e
    ∙ sym (ap (λ (o : Option FieldFault). option_or o (fields_fault (before ++ f ∷ []) fs)) e)
faults_first_by before f fs k None e rest = ap (option_or (field_fault before f)) (rest (fault_room before f e))

faults_first : (before fs : List Field) (k : ℕ) → 1 ≤ k → 257 ≤ length before + k → fields_fault before (take k fs) ≡ fields_fault before fs
faults_first before fs zero some many = absurd (omega (arith, some))
faults_first before [] (suc k) some many = refl
faults_first before (f ∷ fs) (suc k) some many =
    faults_first_by before f fs k (field_fault before f) refl (λ room. faults_first (before ++ f ∷ []) fs k (omega (arith, room, many)) (omega (arith, many, length-append before (f ∷ []))))

-- so does it the package of the fields that are gathered
with_added_first : (r : Registered) (n : Text) (fs : List Field) → with_added r (named n (take most_gathered fs)) ≡ with_added r (named n fs)
with_added_first r n fs =
    added_by r n fs (take most_gathered fs) (is_among r.packages n) (fields_fault r.fields fs) (fields_fault r.fields (take most_gathered fs)) (faults_first r.fields fs most_gathered (omega arith) (omega arith)) (λ e. take_all most_gathered fs (omega (arith, faults_few r.fields fs e)))

-- what adding the gathered fields of a package gives is what adding the package gives
pub added_as : (r : Registered) (blocks : List FieldBlock) (package_name : Text) (p : Package) (a : Result Registered ProblemFault) → p.name ≡ package_name → p.fields ≡ take most_gathered (flat_map kept_fields (blocks_of blocks package_name)) → with_added r p ≡ a → with_added r (package_of blocks package_name) ≡ a
added_as r blocks package_name p a e f h =
    sym (with_added_kept r blocks package_name)
    ∙ sym (with_added_first r package_name (flat_map kept_fields (blocks_of blocks package_name)))
    ∙ sym (ap (λ (m : Text). with_added r (named m p.fields)) e ∙ ap (λ (l : List Field). with_added r (named package_name l)) f)
    ∙ h

pub refused_as : (r : Registered) (blocks : List FieldBlock) (package_name : Text) (p : Package) (fault : ProblemFault) → p.name ≡ package_name → p.fields ≡ take most_gathered (flat_map kept_fields (blocks_of blocks package_name)) → (fault ≡ NoMemory) ⊎ (with_added r p ≡ Err fault) → (fault ≡ NoMemory) ⊎ (with_added r (package_of blocks package_name) ≡ Err fault)
refused_as r blocks package_name p fault e f (inl none) = inl none
refused_as r blocks package_name p fault e f (inr h) = inr (added_as r blocks package_name p (Err fault) e f h)

few_by : (t : Bool) (x : FieldFault) (o : Option FieldFault) (s r' : Registered) → unless (cond t (Some x) o) s ≡ Ok r' → o ≡ None
few_by true x o s r' e = cc
few_by false x None s r' e = refl
few_by false x (Some y) s r' e = cc

-- of a package that is taken all fields were gathered
pub whole_moves : (r r' : Registered) (blocks : List FieldBlock) (package_name : Text) → with_added r (package_of blocks package_name) ≡ Ok r' → take most_gathered (package_moves blocks package_name) ≡ package_moves blocks package_name
whole_moves r r' blocks package_name e =
    let fs = flat_map fields_of (blocks_of blocks package_name) in
    let none = few_by (is_among r.packages package_name) (Twice package_name) (fields_fault r.fields fs) _ r' e in
    take_all most_gathered (package_moves blocks package_name) (omega (arith, faults_few r.fields fs none, length_moves (blocks_of blocks package_name)))
