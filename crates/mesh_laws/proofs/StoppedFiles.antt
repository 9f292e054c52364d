-- The files of a run that stops are those of the cycles before.
use Rattle.std.proofs.Common.{◌≡◌, ℕ, zero, suc, ◌+◌, ◌-◌, ◌≤◌, List, [], ◌∷◌, ◌++◌, refl, arith, ap, sym, ◌∙◌, append_assoc}
use Rattle.std.proofs.lemmas.List.{append-nil}
use Rattle.std.specs.List.{flat_map, range_with_len}
use Rattle.package_fields.specs.Kernel.{Reacted}
use Rattle.problem_set.specs.Settings.{Settings}
use Rattle.mesh_rules.specs.Run.{Reached, next_outcome, opened, run, run_from, too_many_at, too_many_at_start}
use Rattle.mesh_rules.specs.Files.{NamedText, dumps_at, dumps_of_cycle, history_file_name, lines_until, of_running}
use Rattle.mesh_rules.specs.Texts.{history_of}
use Rattle.mesh_laws.specs.FileLaws.{FilesOfStopped, NoFilesAtStart}

-- one cycle more
pub run_more : (p : Settings) (react : List ℕ → Reacted) (n : ℕ) → run p react (suc n) ≡ next_outcome p react (suc n) (run p react n)
unfolding run run_from
run_more p react n = let e : 0 + suc n ≡ suc n = omega arith in ap (λ k. next_outcome p react k (run_from p react 0 (opened p) n)) e

pub run_first : (p : Settings) (react : List ℕ → Reacted) → run p react 0 ≡ opened p
unfolding run run_from
run_first p react = refl

-- what has stopped stays so
stays : (p : Settings) (react : List ℕ → Reacted) (cycle at leaves k n : ℕ) → cycle + k ≡ n → run p react cycle ≡ too_many_at at leaves → run p react n ≡ too_many_at at leaves
stays p react cycle at leaves zero n e h = let same : n ≡ cycle = omega arith in ap (run p react) same ∙ h
stays p react cycle at leaves (suc k) n e h =
    let before : n ≡ suc (cycle + k) = omega arith in
    ap (run p react) before ∙ run_more p react (cycle + k) ∙ ap (next_outcome p react (suc (cycle + k))) (stays p react cycle at leaves k (cycle + k) refl h)

never_starts : (p : Settings) (react : List ℕ → Reacted) (n : ℕ) → opened p ≡ too_many_at_start → run p react n ≡ too_many_at_start
never_starts p react zero h = run_first p react ∙ h
never_starts p react (suc n) h = run_more p react n ∙ ap (next_outcome p react (suc n)) (never_starts p react n h)

-- lists over ranges
range_parts : {X : Type 0} (f : ℕ → List X) (a n k : ℕ) → flat_map f (range_with_len a (n + k)) ≡ flat_map f (range_with_len a n) ++ flat_map f (range_with_len (a + n) k)
range_parts f a zero k = let e : 0 + k ≡ k = omega arith in let g : a ≡ a + 0 = omega arith in ap (λ v. flat_map f (range_with_len a v)) e ∙ ap (λ v. flat_map f (range_with_len v k)) g
range_parts f a (suc n) k =
    let e : suc n + k ≡ suc (n + k) = omega arith in
    let g : a + 1 + n ≡ a + suc n = omega arith in
    ap (λ v. flat_map f (range_with_len a v)) e
    ∙ ap (λ v. f a ++ v) (range_parts f (a + 1) n k)
    ∙ sym (append_assoc (f a) (flat_map f (range_with_len (a + 1) n)) (flat_map f (range_with_len (a + 1 + n) k)))
    ∙ ap (λ v. f a ++ flat_map f (range_with_len (a + 1) n) ++ flat_map f (range_with_len v k)) g

range_nothing : {X : Type 0} (f : ℕ → List X) (a n : ℕ) → ((i : ℕ) → a ≤ i → f i ≡ []) → flat_map f (range_with_len a n) ≡ []
range_nothing f a zero h = refl
range_nothing f a (suc n) h = ap (λ v. v ++ flat_map f (range_with_len (a + 1) n)) (h a (omega arith)) ∙ range_nothing f (a + 1) n (λ i l. h i (omega arith))

-- the history, where a run completes
abbrev history_file : Settings → (List ℕ → Reacted) → List ℕ → Reached → List NamedText
history_file p react prefix r = (history_file_name prefix, history_of p (lines_until p react p.nlim)) ∷ []

pub files_of_stopped : FilesOfStopped
files_of_stopped p react prefix cycle leaves few stop =
    let f : ℕ → List NamedText = dumps_of_cycle p react prefix in
    let at : (i : ℕ) → cycle ≤ i → run p react i ≡ too_many_at cycle leaves = λ i l. stays p react cycle cycle leaves (i - cycle) i (omega arith) stop in
    let whole : p.nlim + 1 ≡ cycle + (p.nlim + 1 - cycle) = omega arith in
    let later = range_nothing f (0 + cycle) (p.nlim + 1 - cycle) (λ i l. ap (of_running (dumps_at p prefix i)) (at i (omega arith))) in
    let dumps = ap (λ v. flat_map f (range_with_len 0 v)) whole ∙ range_parts f 0 cycle (p.nlim + 1 - cycle) ∙ ap (λ v. flat_map f (range_with_len 0 cycle) ++ v) later ∙ append-nil (flat_map f (range_with_len 0 cycle)) in
    two dumps (ap (of_running (history_file p react prefix)) (at p.nlim few))
  where
    two : {a b c : List NamedText} → a ≡ c → b ≡ [] → a ++ b ≡ c
    two {a} {b} {c} e g = ap (λ v. a ++ v) g ∙ append-nil a ∙ e

pub no_files_at_start : NoFilesAtStart
no_files_at_start p react prefix stop =
    let f : ℕ → List NamedText = dumps_of_cycle p react prefix in
    let dumps = range_nothing f 0 (p.nlim + 1) (λ i l. ap (of_running (dumps_at p prefix i)) (never_starts p react i stop)) in
    two dumps (ap (of_running (history_file p react prefix)) (never_starts p react p.nlim stop))
  where
    two : {a b : List NamedText} → a ≡ [] → b ≡ [] → a ++ b ≡ []
    two {a} {b} e g = ap (λ v. v ++ b) e ∙ g
