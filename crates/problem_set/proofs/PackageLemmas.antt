-- Gathering the fields of packages.
use Rattle.std.proofs.Common.{◌≡◌, ◌<◌, ◌||◌, slice_get, ◌+◌, ◌++◌, ◌∷◌, [], ◌⊎◌, inl, inr, ℕ, Bool, true, false, cond, List, length, get_or, map, filter, take, drop, fold, Option, Some, None, Result, Ok, Err, refl, sym, ap, ◌∙◌, subst, append_assoc, arith, length-append, All, take_all}
use Rattle.std.specs.List.{flat_map}
use Rattle.std.specs.Str.{bytes_eq}
use Rattle.std.proofs.lemmas.List.{append-nil, take-map, map-append, take_more, take-append-drop, length-map}
use Rattle.std.proofs.lemmas.List.Elements.{filter-append, All-append, All-nil, All-push, All-head, All-tail}
use Rattle.std.proofs.lemmas.Grind.{flat_map-append}
use Rattle.std.proofs.lemmas.Option.{slice_get_within, get_or_from_slice_get}
use Rattle.std.proofs.lemmas.Slice.Eq.{bytes_eq-Decides}
use Rattle.input_file.specs.Texts.{Text}
use Rattle.package_fields.specs.declared.field.Field.{Field}
use Rattle.package_fields.specs.declared.field.Package.{Package}
use Rattle.package_fields.specs.declared.flag.Flag.TheVariants.{Sparse}
use Rattle.package_fields.specs.Flags.{has}
use Rattle.package_fields.specs.Fields.{Registered, is_among}
use Rattle.deck_values.specs.declared.fault.ProblemFault.{ProblemFault}
use Rattle.deck_values.specs.declared.fault.ProblemFault.TheVariants.{NoMemory}
use Rattle.deck_entries.specs.declared.entries.Moves.{Moves}
use Rattle.deck_entries.specs.declared.field_blocks.FieldBlock.{FieldBlock}
use Rattle.deck_values.specs.Reading.{◌>>=◌}
use Rattle.deck_entries.specs.SoundEntries.{IsMoves}
use Rattle.deck_entries.specs.FieldBlocks.{pool_field, fields_of}
use Rattle.problem_set.specs.Kept.{kept_fields, kept_flags}
use Rattle.problem_set.specs.PackageBlocks.{IsFirstFrom}
use Rattle.problem_set.specs.Packages.{with_name, first_named, blocks_of, package_of, moves_of, package_moves, with_added, all_added, package_names, unless, with_package_once, moves_once, registered}
use Rattle.package_fields.specs.declared.fault.FieldFault.{FieldFault}
use Rattle.package_fields.specs.Registered.{package_fault, with_package}

map_const : {A : Type 0} {B : Type 0} {C : Type 0} (g : A → B) (m : C) (xs : List A) → map (λ (y : B). m) (map g xs) ≡ map (λ (x : A). m) xs
map_const g m [] = refl
map_const g m (x ∷ xs) = ap (λ l. m ∷ l) (map_const g m xs)

-- how the fields of a pool move
pub moves_of_pool : (b : FieldBlock) → has Sparse b.flags ≡ true → moves_of b ≡ map (λ (id : ℕ). b.moves) b.ids
moves_of_pool b e = rw e (map_const (pool_field b.name b.flags) b.moves b.ids)

-- the first fields of a pool
pub first_of_pool : (b : FieldBlock) (r : ℕ) → has Sparse b.flags ≡ true → map (pool_field b.name (kept_flags b.flags)) (take r b.ids) ≡ take r (kept_fields b)
first_of_pool b r e = rw e (sym (take-map (pool_field b.name (kept_flags b.flags)) r b.ids))

pub first_moves_of_pool : (b : FieldBlock) (r : ℕ) → has Sparse b.flags ≡ true → map (λ (id : ℕ). b.moves) (take r b.ids) ≡ take r (moves_of b)
first_moves_of_pool b r e = sym (take-map (λ (id : ℕ). b.moves) r b.ids) ∙ ap (take r) (sym (moves_of_pool b e))

after_added : (ps qs : List Package) (a : Result Registered ProblemFault) → ((s : Registered) → all_added s (ps ++ qs) ≡ (all_added s ps >>= λ t. all_added t qs)) → (a >>= λ s. all_added s (ps ++ qs)) ≡ ((a >>= λ s. all_added s ps) >>= λ s. all_added s qs)
after_added ps qs (Ok s) next = next s
after_added ps qs (Err fault) next = refl

-- packages added one list after another
pub all_added-append : (r : Registered) (ps qs : List Package) → all_added r (ps ++ qs) ≡ (all_added r ps >>= λ s. all_added s qs)
all_added-append r [] qs = refl
all_added-append r (p ∷ ps) qs = after_added ps qs (with_added r p) (λ s. all_added-append s ps qs)

fold_append : {A : Type 0} {B : Type 0} (f : B → A → B) (a : B) (xs ys : List A) → fold f a (xs ++ ys) ≡ fold f (fold f a xs) ys
fold_append f a [] ys = refl
fold_append f a (x ∷ xs) ys = fold_append f (f a x) xs ys

-- one more package_name
pub names_more : (blocks : List FieldBlock) (i : ℕ) (d : FieldBlock) → i < length blocks → package_names (take (i + 1) blocks) ≡ with_name (package_names (take i blocks)) (get_or blocks i d).package_name
names_more blocks i d lt =
    ap package_names (take_more blocks i d lt)
    ∙ ap first_named (map-append (λ (b : FieldBlock). b.package_name) (take i blocks) (get_or blocks i d ∷ []))
    ∙ fold_append with_name [] (map (λ (b : FieldBlock). b.package_name) (take i blocks)) ((get_or blocks i d).package_name ∷ [])

extends : (b : Bool) (names more : List Text) (n : Text) → (rest : List Text) × (fold with_name names more ≡ names ++ rest) → (rest : List Text) × (fold with_name (names ++ n ∷ []) more ≡ (names ++ n ∷ []) ++ rest) → (rest : List Text) × (fold with_name (cond b names (names ++ n ∷ [])) more ≡ names ++ rest)
extends true names more n same longer = same
extends false names more n same longer = (n ∷ longer.0, longer.1 ∙ append_assoc names (n ∷ []) longer.0)

-- names that are added go to the end
extended : (names more : List Text) → (rest : List Text) × (fold with_name names more ≡ names ++ rest)
extended names [] = ([], sym (append-nil names))
extended names (n ∷ more) = extends (is_among names n) names more n (extended names more) (extended (names ++ n ∷ []) more)

-- the package_names of all blocks begin with those of the first ones
names_begin : (blocks : List FieldBlock) (i : ℕ) → (rest : List Text) × (package_names blocks ≡ package_names (take i blocks) ++ rest)
names_begin blocks i =
    let e = extended (package_names (take i blocks)) (map (λ (b : FieldBlock). b.package_name) (drop i blocks)) in
    (e.0, ap package_names (sym (take-append-drop i blocks)) ∙ ap first_named (map-append (λ (b : FieldBlock). b.package_name) (take i blocks) (drop i blocks)) ∙ fold_append with_name [] (map (λ (b : FieldBlock). b.package_name) (take i blocks)) (map (λ (b : FieldBlock). b.package_name) (drop i blocks)) ∙ e.1)

abbrev none_added : Registered
none_added = record { packages = []; fields = [] }

-- the packages of these names are registered
pub record IsRegistered (blocks : List FieldBlock) (names : List Text) (r : Registered) (moves : List Moves) : Type 0 where
  pub packages : r.packages ≡ names
  pub added : all_added none_added (map (package_of blocks) names) ≡ Ok r
  pub moved : moves ≡ flat_map (package_moves blocks) names
  pub as_many : length moves ≡ length r.fields
  pub sound : All IsMoves moves

-- as many moves as fields
pub length_moves : (bs : List FieldBlock) → length (flat_map moves_of bs) ≡ length (flat_map fields_of bs)
length_moves [] = refl
length_moves (b ∷ bs) =
    length-append (moves_of b) (flat_map moves_of bs) ∙ ap (λ (n : ℕ). n + length (flat_map moves_of bs)) (length-map (fields_of b) (λ (f : Field). b.moves)) ∙ ap (λ (n : ℕ). length (fields_of b) + n) (length_moves bs) ∙ sym (length-append (fields_of b) (flat_map fields_of bs))

all_same : {A : Type 0} {B : Type 0} (P : B → Type 0) (m : B) (xs : List A) → P m → All P (map (λ (x : A). m) xs)
all_same P m [] h = All-nil P
all_same P m (x ∷ xs) h = All-append P (m ∷ []) (map (λ (y : _). m) xs) (All-push P [] m (All-nil P) h) (all_same P m xs h)

sound_more : (t : Bool) (b : FieldBlock) (rest : List FieldBlock) → IsMoves b.moves → All IsMoves (flat_map moves_of rest) → All IsMoves (flat_map moves_of (cond t (b ∷ rest) rest))
sound_more true b rest h s = All-append IsMoves (moves_of b) (flat_map moves_of rest) (all_same IsMoves b.moves (fields_of b) h) s
sound_more false b rest h s = s

sound_moves : (bs : List FieldBlock) (package_name : Text) → All (λ (b : FieldBlock). IsMoves b.moves) bs → All IsMoves (flat_map moves_of (blocks_of bs package_name))
sound_moves [] package_name s = All-nil IsMoves
sound_moves (b ∷ bs) package_name s =
    sound_more (bytes_eq package_name b.package_name) b (blocks_of bs package_name) (All-head (λ (x : FieldBlock). IsMoves x.moves) b bs s) (sound_moves bs package_name (All-tail (λ (x : FieldBlock). IsMoves x.moves) b bs s))

unless_ok : {A : Type 0} (fault : Option FieldFault) (x y : A) → unless fault x ≡ Ok y → y ≡ x
unless_ok None x y e = cc
unless_ok (Some f) x y e = cc

-- one more package is registered
register_new : (blocks : List FieldBlock) (names : List Text) (r : Registered) (moves : List Moves) (o : Text) (r' : Registered) (moves' : List Moves) → All (λ (b : FieldBlock). IsMoves b.moves) blocks → IsRegistered blocks names r moves → with_added r (package_of blocks o) ≡ Ok r' → moves' ≡ moves ++ package_moves blocks o → IsRegistered blocks (names ++ o ∷ []) r' moves'
register_new blocks names r moves o r' moves' sound s e m =
    let is : r' ≡ with_package r (package_of blocks o) = unless_ok (package_fault r (package_of blocks o)) (with_package r (package_of blocks o)) r' e in
    record {
      packages = ap (λ (x : Registered). x.packages) is ∙ ap (λ (ns : List Text). ns ++ o ∷ []) s.packages;
      added = ap (all_added none_added) (map-append (package_of blocks) names (o ∷ [])) ∙ all_added-append none_added (map (package_of blocks) names) (package_of blocks o ∷ []) ∙ ap (λ (a : Result Registered ProblemFault). a >>= λ t. all_added t (package_of blocks o ∷ [])) s.added ∙ ap (λ (a : Result Registered ProblemFault). a >>= λ t. all_added t []) e;
      moved = m ∙ ap (λ (l : List Moves). l ++ package_moves blocks o) s.moved ∙ ap (λ (l : List Moves). flat_map (package_moves blocks) names ++ l) (sym (append-nil (package_moves blocks o))) ∙ sym (flat_map-append (package_moves blocks) names (o ∷ []));
      as_many = ap length m ∙ length-append moves (package_moves blocks o) ∙ ap (λ (n : ℕ). n + length (package_moves blocks o)) s.as_many ∙ ap (λ (n : ℕ). length r.fields + n) (length_moves (blocks_of blocks o)) ∙ sym (length-append r.fields (package_of blocks o).fields) ∙ sym (ap (λ (x : Registered). length x.fields) is);
      sound = subst (All IsMoves) (sym m) (All-append IsMoves moves (package_moves blocks o) s.sound (sound_moves blocks o sound));
    }

-- one more block is seen to
pub register_step : (blocks : List FieldBlock) (i : ℕ) (d : FieldBlock) (r : Registered) (moves : List Moves) (o : Text) (r' : Registered) (moves' : List Moves) → All (λ (b : FieldBlock). IsMoves b.moves) blocks → IsRegistered blocks (package_names (take i blocks)) r moves → i < length blocks → (get_or blocks i d).package_name ≡ o → with_package_once blocks r o ≡ Ok r' → moves' ≡ moves ++ moves_once blocks r o → IsRegistered blocks (package_names (take (i + 1) blocks)) r' moves'
register_step blocks i d r moves o r' moves' sound s lt is e m =
    let names = package_names (take i blocks) in
    let more : package_names (take (i + 1) blocks) ≡ with_name names o = names_more blocks i d lt ∙ ap (with_name names) is in
    let known : is_among names o ≡ is_among r.packages o = ap (λ (ns : List Text). is_among ns o) (sym s.packages) in
    subst (λ (ns : List Text). IsRegistered blocks ns r' moves') (sym (more ∙ ap (λ (b : Bool). cond b names (names ++ o ∷ [])) known)) (cases (is_among r.packages o) e m)
  where
    names' : List Text
    names' = package_names (take i blocks)

    cases : (b : Bool) → cond b (Ok r) (with_added r (package_of blocks o)) ≡ Ok r' → moves' ≡ moves ++ cond b [] (package_moves blocks o) → IsRegistered blocks (cond b names' (names' ++ o ∷ [])) r' moves'
    cases true e m = let same : r ≡ r' = cc in subst (λ (x : Registered). IsRegistered blocks names' x moves') same (subst (IsRegistered blocks names' r) (sym (m ∙ append-nil moves)) s)
    cases false e m = register_new blocks names' r moves o r' moves' sound s e m

stop_added : (ps qs : List Package) (r : Registered) (p : Package) (fault : ProblemFault) → all_added none_added ps ≡ Ok r → with_added r p ≡ Err fault → all_added none_added (ps ++ (p ∷ qs)) ≡ Err fault
stop_added ps qs r p fault e h =
    all_added-append none_added ps (p ∷ qs) ∙ ap (λ (a : Result Registered ProblemFault). a >>= λ t. all_added t (p ∷ qs)) e ∙ ap (λ (a : Result Registered ProblemFault). a >>= λ t. all_added t qs) h

-- a package that is refused stops the reading
pub register_stop : (blocks : List FieldBlock) (i : ℕ) (d : FieldBlock) (r : Registered) (moves : List Moves) (o : Text) (fault : ProblemFault) → IsRegistered blocks (package_names (take i blocks)) r moves → i < length blocks → (get_or blocks i d).package_name ≡ o → (fault ≡ NoMemory) ⊎ (with_package_once blocks r o ≡ Err fault) → (fault ≡ NoMemory) ⊎ (registered blocks ≡ Err fault)
unfolding registered
register_stop blocks i d r moves o fault s lt is (inl h) = inl h
register_stop blocks i d r moves o fault s lt is (inr h) = inr (ap (λ (a : Result Registered ProblemFault). a >>= λ t. Ok (record { fields = t; moves = flat_map (package_moves blocks) (package_names blocks) })) (cases (is_among r.packages o) refl h))
  where
    names : List Text
    names = package_names (take i blocks)

    cases : (b : Bool) → is_among r.packages o ≡ b → cond b (Ok r) (with_added r (package_of blocks o)) ≡ Err fault → all_added none_added (map (package_of blocks) (package_names blocks)) ≡ Err fault
    cases true k e = let no : ⊥ = cc in absurd no
    cases false k e =
        let more : package_names (take (i + 1) blocks) ≡ with_name names o = names_more blocks i d lt ∙ ap (with_name names) is in
        let known : is_among names o ≡ false = ap (λ (ns : List Text). is_among ns o) (sym s.packages) ∙ k in
        let next : package_names (take (i + 1) blocks) ≡ names ++ o ∷ [] = more ∙ ap (λ (b : Bool). cond b names (names ++ o ∷ [])) known in
        let b = names_begin blocks (i + 1) in
        let whole : package_names blocks ≡ names ++ (o ∷ b.0) = b.1 ∙ ap (λ (ns : List Text). ns ++ b.0) next ∙ append_assoc names (o ∷ []) b.0 in
        ap (λ (ns : List Text). all_added none_added (map (package_of blocks) ns)) whole
        ∙ ap (all_added none_added) (map-append (package_of blocks) names (o ∷ b.0))
        ∙ stop_added (map (package_of blocks) names) (map (package_of blocks) b.0) r (package_of blocks o) fault s.added e

-- all blocks were seen to
pub register_all : (blocks : List FieldBlock) (r : Registered) (moves : List Moves) → IsRegistered blocks (package_names (take (length blocks) blocks)) r moves → registered blocks ≡ Ok (record { fields = r; moves = moves })
unfolding registered
register_all blocks r moves s =
    let t = subst (λ (bs : List FieldBlock). IsRegistered blocks (package_names bs) r moves) (take_all (length blocks) blocks (omega arith)) s in
    ap (λ (a : Result Registered ProblemFault). a >>= λ x. Ok (record { fields = x; moves = flat_map (package_moves blocks) (package_names blocks) })) t.added
    ∙ ap (λ (l : List Moves). Ok (record { fields = r; moves = l })) (sym t.moved)

-- nothing is registered at first
pub register_none : (blocks : List FieldBlock) → IsRegistered blocks (package_names (take 0 blocks)) none_added []
register_none blocks = record { packages = refl; added = refl; moved = refl; as_many = refl; sound = All-nil IsMoves }

none_last : (ns : List Text) (n m : Text) → is_among (ns ++ n ∷ []) m ≡ false → (is_among ns m ≡ false) × (bytes_eq m n ≡ false)
none_last [] n m e = (refl, last (bytes_eq m n) e) where
  last : (u : Bool) → (u || false) ≡ false → u ≡ false
  last true f = f
  last false f = refl
none_last (k ∷ ns) n m e = both (bytes_eq m k) e (none_last ns n m) where
  both : (u : Bool) → (u || is_among (ns ++ n ∷ []) m) ≡ false → (is_among (ns ++ n ∷ []) m ≡ false → (is_among ns m ≡ false) × (bytes_eq m n ≡ false)) → ((u || is_among ns m) ≡ false) × (bytes_eq m n ≡ false)
  both true f rest = let no : ⊥ = cc in absurd no
  both false f rest = rest f

-- a name that no package bears is that of no block
none_named : (names : List Text) (bs : List FieldBlock) (o : Text) → is_among (fold with_name names (map (λ (b : FieldBlock). b.package_name) bs)) o ≡ false → (is_among names o ≡ false) × (blocks_of bs o ≡ [])
none_named names [] o e = (e, refl)
none_named names (b ∷ bs) o e =
    let t = none_named (with_name names b.package_name) bs o e in
    let s = none_of (is_among names b.package_name) (bytes_eq o b.package_name) names b.package_name o refl refl t.0 in
    (s.0, ap (λ (u : Bool). cond u (b ∷ blocks_of bs o) (blocks_of bs o)) s.1 ∙ t.1)
  where
    none_of : (u v : Bool) (ns : List Text) (n m : Text) → is_among ns n ≡ u → bytes_eq m n ≡ v → is_among (cond u ns (ns ++ n ∷ [])) m ≡ false → (is_among ns m ≡ false) × (bytes_eq m n ≡ false)
    none_of true true ns n m k l h = let same : m ≡ n = (bytes_eq-Decides m n).0 l in let no : is_among ns n ≡ false = subst (λ (x : Text). is_among ns x ≡ false) same h in let bad : ⊥ = cc in absurd bad
    none_of true false ns n m k l h = (h, l)
    none_of false v ns n m k l h = none_last ns n m h

-- the first block of a package
pub first_block : (blocks : List FieldBlock) (i : ℕ) (b : FieldBlock) (r : Registered) (moves : List Moves) → IsRegistered blocks (package_names (take i blocks)) r moves → slice_get blocks i ≡ Some b → is_among r.packages b.package_name ≡ false → IsFirstFrom blocks 0 b.package_name (Some i)
first_block blocks i b r moves s here new =
    let t = none_named [] (take i blocks) b.package_name (ap (λ (ns : List Text). is_among ns b.package_name) (sym s.packages) ∙ new) in
    let p = λ (x : FieldBlock). bytes_eq b.package_name x.package_name in
    record {
      rest = ap (filter p) (sym (take-append-drop i blocks)) ∙ filter-append p (take i blocks) (drop i blocks) ∙ ap (λ (l : List FieldBlock). l ++ filter p (drop i blocks)) t.1;
      place = λ j e. let f : i ≡ j = cc in (b, omega arith, ap (slice_get blocks) (sym f) ∙ here, refl);
    }

-- the same steps at a block that is there
pub register_step_at : (blocks : List FieldBlock) (i : ℕ) (b : FieldBlock) (r : Registered) (moves : List Moves) (r' : Registered) (moves' : List Moves) → All (λ (x : FieldBlock). IsMoves x.moves) blocks → IsRegistered blocks (package_names (take i blocks)) r moves → slice_get blocks i ≡ Some b → with_package_once blocks r b.package_name ≡ Ok r' → moves' ≡ moves ++ moves_once blocks r b.package_name → IsRegistered blocks (package_names (take (i + 1) blocks)) r' moves'
register_step_at blocks i b r moves r' moves' sound s here e m =
    register_step blocks i b r moves b.package_name r' moves' sound s (slice_get_within blocks i b here) (ap (λ (x : FieldBlock). x.package_name) (get_or_from_slice_get blocks i b b here)) e m

pub register_stop_at : (blocks : List FieldBlock) (i : ℕ) (b : FieldBlock) (r : Registered) (moves : List Moves) (fault : ProblemFault) → IsRegistered blocks (package_names (take i blocks)) r moves → slice_get blocks i ≡ Some b → (fault ≡ NoMemory) ⊎ (with_package_once blocks r b.package_name ≡ Err fault) → (fault ≡ NoMemory) ⊎ (registered blocks ≡ Err fault)
register_stop_at blocks i b r moves fault s here =
    register_stop blocks i b r moves b.package_name fault s (slice_get_within blocks i b here) (ap (λ (x : FieldBlock). x.package_name) (get_or_from_slice_get blocks i b b here))
