-- Files that are gained one after another, and what is there where writing stops.
use Rattle.std.proofs.Common.{◌≡◌, List, [], ◌∷◌, ◌++◌, Option, Some, None, IsTrue, refl, sym, ◌∙◌, ap, subst, inl, inr, append_assoc}
use Rattle.std.specs.Option.{option_map, ForSome}
use Rattle.std.proofs.lemmas.List.Elements.{All-append}
use Rattle.mesh_outside.specs.declared.files.Gained.{Gained}
use Rattle.mesh_outside.specs.Gained.{IsClosed, Gains, IsPrefix, GainsPrefix}

-- files that are gained one list after another
pub gains_more : (a b c : Option (List Gained)) (xs ys : List Gained) → Gains a b xs → Gains b c ys → Gains a c (xs ++ ys)
gains_more None b c xs ys first second = second ∙ ap (option_map (λ before. before ++ ys)) first
gains_more (Some w) b c xs ys first second = second ∙ ap (option_map (λ before. before ++ ys)) first ∙ ap Some (append_assoc w xs ys)

-- no file is unfinished behind finished ones
pub closed_after : (a b : Option (List Gained)) (xs : List Gained) → Gains a b xs → ForSome a IsClosed → IsClosed xs → ForSome b IsClosed
closed_after None b xs gains closed whole = λ w is. absurd (none_is_no_list w (sym gains ∙ is))
  where
    none_is_no_list : (w : List Gained) → ◌≡◌ {A = Option (List Gained)} None (Some w) → ⊥
    none_is_no_list w e = cc
closed_after (Some v) b xs gains closed whole = λ w is.
    let same : ◌≡◌ {A = Option (List Gained)} (Some (v ++ xs)) (Some w) = sym gains ∙ is in
    let joined : v ++ xs ≡ w = cc in
    subst IsClosed joined (All-append (λ file. IsTrue file.whole) v xs (closed v refl) whole)

-- a prefix of some files, behind others before them and with others after them
pub prefix_within : (files xs ys others gained : List Gained) → files ≡ (xs ++ ys) ++ others → IsPrefix ys gained → IsPrefix files (xs ++ gained)
prefix_within files xs ys others gained all (inl first) = inl (record {
  missing = first.missing;
  others = first.others ++ others;
  together = append_assoc xs gained (first.missing ∷ (first.others ++ others))
      ∙ ap (λ w. xs ++ w) (sym (append_assoc gained (first.missing ∷ first.others) others) ∙ ap (λ w. w ++ others) first.together)
      ∙ sym (append_assoc xs ys others)
      ∙ sym all;
})
prefix_within files xs ys others gained all (inr stopped) = inr (record {
  first = xs ++ stopped.first;
  file = stopped.file;
  part = stopped.part;
  others = stopped.others ++ others;
  is_part = stopped.is_part;
  gained_are = ap (λ w. xs ++ w) stopped.gained_are ∙ sym (append_assoc xs stopped.first (stopped.part ∷ []));
  files_are = all
      ∙ ap (λ w. (xs ++ w) ++ others) stopped.files_are
      ∙ append_assoc xs (stopped.first ++ stopped.file ∷ stopped.others) others
      ∙ ap (λ w. xs ++ w) (append_assoc stopped.first (stopped.file ∷ stopped.others) others)
      ∙ sym (append_assoc xs stopped.first (stopped.file ∷ (stopped.others ++ others)));
})

-- writing that stops among later files
pub gains_prefix_more : (a b c : Option (List Gained)) (files xs ys others : List Gained) → files ≡ (xs ++ ys) ++ others → Gains a b xs → GainsPrefix b c ys → GainsPrefix a c files
gains_prefix_more a b c files xs ys others all first stopped = record {
  prefix = xs ++ stopped.prefix;
  is_prefix = prefix_within files xs ys others stopped.prefix all stopped.is_prefix;
  gained = gains_more a b c xs stopped.prefix first stopped.gained;
}
