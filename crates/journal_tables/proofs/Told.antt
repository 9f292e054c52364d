-- Letters on the wire tell their rounds.
use Rattle.std.proofs.Common.{◌≡◌, ◌∙◌, sym, subst, refl, inl, inr, ℕ, zero, suc, ◌-◌, ◌/◌, Option, None, Some, List, [], ◌∷◌, length, slice_index_or}
use Rattle.std.proofs.lemmas.Bool.{cases_lt}
use Rattle.std.proofs.lemmas.List.{get_or_append_left, get_or-append_right}
use Rattle.cycle_tables.specs.declared.letter.Letter.{Letter as Posted}
use Rattle.cycle_tables.specs.declared.letter.Post.{Post}
use Rattle.cycle_tables.specs.Tables.{delivered_by, numbered, state_of}
use Rattle.cycle_tables.proofs.Entries.{not_there, same_value, still_there}
use Rattle.journal_tables.specs.Rounds.{AreOfRound, DeliveriesTellRounds, GivesTellRounds, HaveRounds}

module _ {T : Type 0} (round_of : T → ℕ) where
  numbered_tell : (k r : ℕ) (qs : List (Post T)) → AreOfRound round_of r qs → (j : ℕ) (l : Posted T) →
      slice_index_or (numbered k r qs) j None ≡ Some l → round_of l.content ≡ l.round
  numbered_tell k r [] all zero l e = absurd (not_there l e)
  numbered_tell k r [] all (suc j) l e = absurd (not_there l e)
  numbered_tell k r (q ∷ qs) all zero l e =
      let is = same_value {A = Posted T} (record { number = k; round = r; to = q.to; content = q.content }) l e in
      subst (λ (x : Posted T). round_of x.content ≡ x.round) is all.0
  numbered_tell k r (q ∷ qs) all (suc j) l e = numbered_tell (suc k) r qs all.1 j l e

pub gives_tell : (T : Type 0) → GivesTellRounds T
gives_tell T round_of v i letters h all k l e = elim (cases_lt k (length v.posts)) [
  | inl before ↦ h k l (sym (get_or_append_left v.posts (numbered (length v.posts) ((state_of v i).given / 3) letters) None k before) ∙ e)
  | inr after ↦ numbered_tell round_of (length v.posts) ((state_of v i).given / 3) letters all (k - length v.posts) l
      (sym (get_or-append_right v.posts (numbered (length v.posts) ((state_of v i).given / 3) letters) (length v.posts) k None refl after) ∙ e)
]

pub deliveries_tell : (T : Type 0) → DeliveriesTellRounds T
deliveries_tell T round_of v k l is h =
    subst (λ (o : Option (Posted T)). HaveRounds round_of (delivered_by v k o)) (sym is)
    (λ j m e. h j m (still_there v.posts k j m e).1)
