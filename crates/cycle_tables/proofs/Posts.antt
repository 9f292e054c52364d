-- The letters on the wire, as one is put on it or taken off.
use Rattle.std.proofs.Common.{◌≡◌, ◌≢◌, ◌∙◌, sym, ap, subst, refl, inl, inr, ℕ, suc, ◌+◌, ◌<◌, ◌≤◌, true, Option, Some, None, is_some, List, [], ◌∷◌, ◌++◌, length, map, slice_index_or, slice_set, arith, append_assoc}
use Rattle.std.proofs.Math.ListN.{get_or-map}
use Rattle.std.proofs.lemmas.Bool.{cases_eq, cases_lt}
use Rattle.std.proofs.lemmas.List.{ext_get_or, get_or_past, get_or-set_other, get_or-set_same, length-append, length-map, length-set, map-append}
use Rattle.slab.specs.Slab.{Slab, Updates, get}
use Rattle.cycle_tables.specs.declared.letter.Letter.{Letter}
use Rattle.cycle_tables.specs.declared.letter.Post.{Post}
use Rattle.cycle_tables.specs.Tables.{IsLeast, numbered}
use Rattle.cycle_tables.specs.Inside.{IsFirstFrom, IsWire, at_key, key_of}
use Rattle.cycle_tables.proofs.Entries.{AtEnd, at_end, in_range, is_there, not_there, same_value, some_is, still_there, was_read}
use Rattle.cycle_tables.proofs.Entries.AtEnd.{before, here, past}

pub post_at : {L : Type 0} (slab : Slab L) (keys : List (Option ℕ)) (k : ℕ) → slice_index_or (map (at_key slab) keys) k None ≡ at_key slab (key_of keys k)
post_at slab keys k = get_or-map (at_key slab) keys k None

-- a letter of a number that has a key
pub key_there : {L : Type 0} (slab : Slab L) (keys : List (Option ℕ)) (k : ℕ) → is_some (slice_index_or (map (at_key slab) keys) k None) ≡ true → is_some (key_of keys k) ≡ true
key_there {L} slab keys k h = by (key_of keys k) (ap (λ (o : Option L). is_some o) (sym (post_at slab keys k)) ∙ h)
  where
    by : (o : Option ℕ) → is_some (at_key slab o) ≡ true → is_some o ≡ true
    by None e = e
    by (Some key) e = refl

-- the key of a letter, as it was read
pub read_key : {L : Type 0} (slab : Slab L) (keys : List (Option ℕ)) (n : ℕ) (o : Option ℕ) (key : ℕ) → is_some (slice_index_or (map (at_key slab) keys) n None) ≡ true → o ≡ slice_index_or keys n o → o ≡ Some key → key_of keys n ≡ Some key
read_key slab keys n o key h read is =
    let k = some_is (key_of keys n) (key_there slab keys n h) in
    was_read keys n o None (in_range keys n k.0 k.1) read ∙ is

-- a slab that changed at a key which no number has holds the same letters
pub same_posts : {L : Type 0} (old new : Slab L) (keys : List (Option ℕ)) (key : ℕ) (slot : Option L) → Updates old new key slot → ((k : ℕ) → key_of keys k ≡ Some key → ⊥) → map (at_key new) keys ≡ map (at_key old) keys
same_posts {L} old new keys key slot u free =
    ext_get_or None (map (at_key new) keys) (map (at_key old) keys) (length-map keys (at_key new) ∙ sym (length-map keys (at_key old)))
    (λ i _. post_at new keys i ∙ by (key_of keys i) (λ e. free i e) ∙ sym (post_at old keys i))
  where
    by : (o : Option ℕ) → (o ≡ Some key → ⊥) → at_key new o ≡ at_key old o
    by None ne = refl
    by (Some other) ne = u.others other (λ e. ne (ap (λ (n : ℕ). Some n) e))

-- a letter is put on the wire
pub free_key : {L : Type 0} (slab : Slab L) (keys : List (Option ℕ)) (first key : ℕ) → IsWire slab keys first → get slab key ≡ None → (k : ℕ) → key_of keys k ≡ Some key → ⊥
free_key slab keys first key w vacant k e =
    let s = some_is (get slab key) (w.held k key e) in not_there s.0 (sym vacant ∙ s.1)

pub pushed_posts : {L : Type 0} (old new : Slab L) (keys : List (Option ℕ)) (first key : ℕ) (letter : L) → IsWire old keys first → get old key ≡ None → Updates old new key (Some letter) → map (at_key new) (keys ++ Some key ∷ []) ≡ map (at_key old) keys ++ Some letter ∷ []
pushed_posts {L} old new keys first key letter w vacant u =
    map-append (at_key new) keys (Some key ∷ [])
    ∙ ap (λ (ps : List (Option L)). ps ++ get new key ∷ []) (same_posts old new keys key (Some letter) u (free_key old keys first key w vacant))
    ∙ ap (λ (o : Option L). map (at_key old) keys ++ o ∷ []) u.changed

pub pushed_wire : {L : Type 0} (old new : Slab L) (keys : List (Option ℕ)) (first key : ℕ) (letter : L) → IsWire old keys first → get old key ≡ None → Updates old new key (Some letter) → IsWire new (keys ++ Some key ∷ []) first
pushed_wire {L} old new keys first key letter w vacant u = record {
  held = λ k other e. held k other e (at_end keys (Some key) None k);
  apart = λ j k other d e. apart j k other d e (at_end keys (Some key) None j) (at_end keys (Some key) None k);
  gone = λ k h. gone k h (at_end keys (Some key) None k);
  within = (let l : length (keys ++ Some key ∷ []) ≡ length keys + 1 = length-append keys (Some key ∷ []) in let n = w.within in omega arith);
  least = λ h. least (at_end keys (Some key) None first);
}
  where
    key_of_new : ℕ → Option ℕ
    key_of_new k = key_of (keys ++ Some key ∷ []) k

    there : is_some (get new key) ≡ true
    there = is_there (get new key) letter u.changed

    kept : (k other : ℕ) → key_of keys k ≡ Some other → is_some (get new other) ≡ true
    kept k other e = elim (cases_eq other key) [
      | inl same ↦ absurd (free_key old keys first key w vacant k (e ∙ ap (λ (n : ℕ). Some n) same))
      | inr ne ↦ ap (λ (o : Option L). is_some o) (u.others other ne) ∙ w.held k other e
    ]

    held : (k other : ℕ) → key_of (keys ++ Some key ∷ []) k ≡ Some other → AtEnd keys (Some key) None k → is_some (get new other) ≡ true
    held k other e (before h same) = kept k other (sym same ∙ e)
    held k other e (here h same) = subst (λ n. is_some (get new n) ≡ true) (same_value key other (sym same ∙ e)) there
    held k other e (past h same) = absurd (not_there other (sym same ∙ e))

    apart : (j k other : ℕ) → key_of (keys ++ Some key ∷ []) j ≡ Some other → key_of (keys ++ Some key ∷ []) k ≡ Some other → AtEnd keys (Some key) None j → AtEnd keys (Some key) None k → j ≡ k
    apart j k other d e (past h same) b = absurd (not_there other (sym same ∙ d))
    apart j k other d e a (past h same) = absurd (not_there other (sym same ∙ e))
    apart j k other d e (before h same) (before h2 same2) = w.apart j k other (sym same ∙ d) (sym same2 ∙ e)
    apart j k other d e (here h same) (here h2 same2) = h ∙ sym h2
    apart j k other d e (before h same) (here h2 same2) = absurd (free_key old keys first key w vacant j (sym same ∙ d ∙ ap (λ (n : ℕ). Some n) (sym (same_value key other (sym same2 ∙ e)))))
    apart j k other d e (here h same) (before h2 same2) = absurd (free_key old keys first key w vacant k (sym same2 ∙ e ∙ ap (λ (n : ℕ). Some n) (sym (same_value key other (sym same ∙ d)))))

    gone : (k : ℕ) → k < first → AtEnd keys (Some key) None k → key_of (keys ++ Some key ∷ []) k ≡ None
    gone k h (before l same) = same ∙ w.gone k h
    gone k h (here l same) = absurd (let n = w.within in omega arith)
    gone k h (past l same) = same

    least : AtEnd keys (Some key) None first → is_some (key_of (keys ++ Some key ∷ []) first) ≡ true
    least (before h same) = ap (λ (o : Option ℕ). is_some o) same ∙ w.least h
    least (here h same) = ap (λ (o : Option ℕ). is_some o) same
    least (past h same) = absurd (let n = w.within in omega arith)

-- a letter is taken off the wire
pub removed_posts : {L : Type 0} (old new : Slab L) (keys : List (Option ℕ)) (first n key : ℕ) → IsWire old keys first → key_of keys n ≡ Some key → Updates old new key None → map (at_key new) (slice_set keys n None) ≡ slice_set (map (at_key old) keys) n None
removed_posts {L} old new keys first n key w is u =
    ext_get_or None (map (at_key new) (slice_set keys n None)) (slice_set (map (at_key old) keys) n None)
    (length-map (slice_set keys n None) (at_key new) ∙ length-set keys n None ∙ sym (length-set (map (at_key old) keys) n None ∙ length-map keys (at_key old)))
    (λ i _. post_at new (slice_set keys n None) i ∙ by i)
  where
    within : n < length keys
    within = in_range keys n key is

    other_key : (i : ℕ) → i ≢ n → (o : Option ℕ) → key_of keys i ≡ o → at_key new o ≡ at_key old o
    other_key i ne None e = refl
    other_key i ne (Some other) e = u.others other (λ same. ne (w.apart i n key (e ∙ ap (λ (k : ℕ). Some k) same) is))

    by : (i : ℕ) → at_key new (key_of (slice_set keys n None) i) ≡ slice_index_or (slice_set (map (at_key old) keys) n None) i None
    by i = elim (cases_eq i n) [
      | inl same ↦ ap (λ j. at_key new (key_of (slice_set keys n None) j)) same ∙ ap (at_key new) (get_or-set_same keys n None None within)
          ∙ sym (ap (λ j. slice_index_or (slice_set (map (at_key old) keys) n None) j None) same ∙ get_or-set_same (map (at_key old) keys) n None None (let l : length (map (at_key old) keys) ≡ length keys = length-map keys (at_key old) in omega (arith, within, l)))
      | inr ne ↦ ap (at_key new) (get_or-set_other keys n i None None ne) ∙ other_key i ne (key_of keys i) refl
          ∙ sym (get_or-set_other (map (at_key old) keys) n i None None ne ∙ post_at old keys i)
    ]

pub removed_wire : {L : Type 0} (old new : Slab L) (keys : List (Option ℕ)) (first n key next : ℕ) → IsWire old keys first → key_of keys n ≡ Some key → Updates old new key None → IsFirstFrom (slice_set keys n None) first next → IsWire new (slice_set keys n None) next
removed_wire {L} old new keys first n key next w is u f = record {
  held = held;
  apart = λ j k other d e. w.apart j k other (still_there keys n j other d).1 (still_there keys n k other e).1;
  gone = gone;
  within = f.within;
  least = f.some;
}
  where
    held : (k other : ℕ) → key_of (slice_set keys n None) k ≡ Some other → is_some (get new other) ≡ true
    held k other e =
        let s = still_there keys n k other e in
        ap (λ (o : Option L). is_some o) (u.others other (λ same. s.0 (w.apart k n key (s.1 ∙ ap (λ (m : ℕ). Some m) same) is))) ∙ w.held k other s.1

    gone : (k : ℕ) → k < next → key_of (slice_set keys n None) k ≡ None
    gone k h = elim (cases_lt k first) [
      | inl low ↦ (elim (cases_eq k n) [
        | inl same ↦ ap (λ j. key_of (slice_set keys n None) j) same ∙ get_or-set_same keys n None None (in_range keys n key is)
        | inr ne ↦ get_or-set_other keys n k None None ne ∙ w.gone k low
      ])
      | inr high ↦ f.none k high h
    ]

-- the least number
pub least_some : {L : Type 0} (slab : Slab L) (keys : List (Option ℕ)) (first : ℕ) → IsWire slab keys first → first < length keys → IsLeast (map (at_key slab) keys) (Some first)
least_some {L} slab keys first w h =
    let s = some_is (key_of keys first) (w.least h) in (
      ap (λ (o : Option L). is_some o) (post_at slab keys first ∙ ap (at_key slab) s.1) ∙ w.held first s.0 s.1,
      λ j low. post_at slab keys j ∙ ap (at_key slab) (w.gone j low),
    )

pub least_none : {L : Type 0} (slab : Slab L) (keys : List (Option ℕ)) (first : ℕ) → IsWire slab keys first → length keys ≤ first → IsLeast (map (at_key slab) keys) None
least_none slab keys first w h k = post_at slab keys k ∙ ap (at_key slab) (elim (cases_lt k first) [ inl low ↦ w.gone k low | inr high ↦ get_or_past keys k None (omega arith) ])

-- letters with the next numbers
pub length_numbered : {T : Type 0} (k r : ℕ) (qs : List (Post T)) → length (numbered k r qs) ≡ length qs
length_numbered k r [] = refl
length_numbered k r (q ∷ qs) = ap suc (length_numbered (suc k) r qs)

pub numbered_more : {T : Type 0} (k r : ℕ) (qs : List (Post T)) (q : Post T) → numbered k r (qs ++ q ∷ []) ≡ numbered k r qs ++ Some (record { number = k + length qs; round = r; to = q.to; content = q.content }) ∷ []
numbered_more {T} k r [] q = ap (λ n. one n) (let e : k ≡ k + 0 = omega arith in e)
  where
    one : ℕ → List (Option (Letter T))
    one n = Some (record { number = n; round = r; to = q.to; content = q.content }) ∷ []
numbered_more {T} k r (p ∷ qs) q =
    ap (λ (ls : List (Option (Letter T))). Some (record { number = k; round = r; to = p.to; content = p.content }) ∷ ls) (numbered_more (suc k) r qs q)
    ∙ ap (λ n. Some (record { number = k; round = r; to = p.to; content = p.content }) ∷ (numbered (suc k) r qs ++ Some (record { number = n; round = r; to = q.to; content = q.content }) ∷ [])) (let e : suc k + length qs ≡ k + suc (length qs) = omega arith in e)

-- one letter more was put on the wire
pub posted_more : {T : Type 0} (start posts more : List (Option (Letter T))) (r n : ℕ) (qs : List (Post T)) (q : Post T) → posts ≡ start ++ numbered (length start) r qs → n ≡ length posts
    → more ≡ posts ++ Some (record { number = n; round = r; to = q.to; content = q.content }) ∷ [] → more ≡ start ++ numbered (length start) r (qs ++ q ∷ [])
posted_more {T} start posts more r n qs q is at pushed =
    let letter : ℕ → List (Option (Letter T)) = λ m. Some (record { number = m; round = r; to = q.to; content = q.content }) ∷ [] in
    let l : length posts ≡ length start + length qs = ap (λ ps. length ps) is ∙ length-append start (numbered (length start) r qs) ∙ ap (λ m. length start + m) (length_numbered (length start) r qs) in
    pushed ∙ ap (λ m. posts ++ letter m) (at ∙ l) ∙ ap (λ ps. ps ++ letter (length start + length qs)) is
    ∙ append_assoc start (numbered (length start) r qs) (letter (length start + length qs))
    ∙ ap (λ ps. start ++ ps) (sym (numbered_more (length start) r qs q))

-- the letters that are left to be put on the wire
pub one_taken : {T : Type 0} (all yielded rest next : List (Post T)) (q : Post T) → yielded ++ rest ≡ all → rest ≡ q ∷ next → (yielded ++ q ∷ []) ++ next ≡ all
one_taken all yielded rest next q is e = append_assoc yielded (q ∷ []) next ∙ ap (λ qs. yielded ++ qs) (sym e) ∙ is

pub some_left : {T : Type 0} (all yielded rest next : List (Post T)) (q : Post T) → yielded ++ rest ≡ all → rest ≡ q ∷ next → length yielded < length all
some_left all yielded rest next q is e =
    let a : length (yielded ++ rest) ≡ length all = ap (λ qs. length qs) is in
    let b : length (yielded ++ rest) ≡ length yielded + length rest = length-append yielded rest in
    let c : length rest ≡ suc (length next) = ap (λ qs. length qs) e in
    omega arith
