-- What was gained where a run stopped.
use Rattle.std.proofs.Common.{◌≡◌, ℕ, ◌+◌, ◌-◌, ◌≤◌, ◌⊎◌, inl, inr, List, [], ◌∷◌, ◌++◌, map, Option, length, refl, sym, ◌∙◌, ap, subst, arith, length-append}
use Rattle.std.specs.List.{flat_map, range_with_len}
use Rattle.std.proofs.lemmas.List.{append-nil, length-map}
use Rattle.problem_set.specs.Settings.{Settings}
use Rattle.mesh_rules.specs.Run.{too_many_at, too_many_at_start}
use Rattle.mesh_rules.specs.Files.{NamedText, dumps_of_cycle, history_file_name, history_files, lines_until}
use Rattle.mesh_rules.specs.Texts.{history_heading, history_of}
use Rattle.mesh_rules.specs.Reaction.{kernel_of}
use Rattle.mesh_laws.proofs.StoppedFiles.{files_of_stopped, no_files_at_start, run_first}
use Rattle.dense_model.specs.RunFiles.{CannotGoOn, CannotStart, IsRunning, RunAt, run_of}
use Rattle.dense_model.proofs.FileLists.{history_is}
use Rattle.dense_model.specs.declared.fault.DenseFault.{DenseFault}
use Rattle.dense_model.specs.declared.fault.DenseFault.TheVariants as dense
use Rattle.mesh_outside.specs.declared.files.Gained.{Gained}
use Rattle.mesh_outside.specs.Gained.{Gains, GainsPrefix}
use Rattle.mesh_driver.specs.declared.fault.DriveFault.{DriveFault}
use Rattle.mesh_driver.specs.declared.fault.DriveFault.TheVariants.{WriteFault, NoMemory, TooManyAtStart, TooManyBlocks}
use Rattle.mesh_driver.specs.Fault.{fault_of_run}
use Rattle.mesh_driver.specs.Files.{whole_file, files_at, files_of}
use Rattle.mesh_driver.specs.Stops.{NeverCompletes, Stops, StopsAmong, StopsIn, StopsWriting}
use Rattle.mesh_driver.proofs.Gaining.{gains_more, gains_prefix_more}
use Rattle.mesh_driver.proofs.Cycles.{all_split, all_with_history, files_before, files_from, gains_next, history_file, nothing_gained, stops_at}

-- some first files were gained: a prefix, or all where none are left
some_gained : (files xs ys : List Gained) (a b : Option (List Gained)) → files ≡ xs ++ ys → Gains a b xs → GainsPrefix a b files ⊎ (Gains a b files × (ys ≡ []))
some_gained files xs [] a b all gains = inr (subst (λ (v : List Gained). Gains a b v) (sym (all ∙ append-nil xs)) gains, refl)
some_gained files xs (y ∷ ys) a b all gains = inl (record { prefix = xs; is_prefix = inl (record { missing = y; others = ys; together = sym all }); gained = gains })

-- the history is left, where the run completes
never_left : (p : Settings) (prefix : List ℕ) (n : ℕ) → files_from p prefix n ≡ [] → NeverCompletes p
never_left p prefix n none = λ runs.
    let dumps : List NamedText = flat_map (dumps_of_cycle p (kernel_of p) prefix) (range_with_len n (p.nlim + 1 - n)) in
    let history : NamedText = (history_file_name prefix, history_of p (lines_until p (kernel_of p) p.nlim)) in
    let long : length (files_from p prefix n) ≡ length (dumps ++ history ∷ []) = length-map (dumps ++ history_files p (kernel_of p) prefix) whole_file ∙ ap (λ (v : List NamedText). length (dumps ++ v)) (history_is p prefix runs) in
    let some : length (dumps ++ history ∷ []) ≡ length dumps + 1 = length-append dumps (history ∷ []) in
    let zero_long : length (files_from p prefix n) ≡ 0 = ap length none in
    omega (arith, long, some, zero_long)

-- memory ran out before the files of a cycle
pub out_of_memory : (p : Settings) (prefix : List ℕ) (n : ℕ) (a b : Option (List Gained)) → n ≤ p.nlim + 1 → Gains a b (files_before p prefix n) → Stops p prefix a b NoMemory
out_of_memory p prefix n a b within gains = by (some_gained (files_of p prefix) (files_before p prefix n) (files_from p prefix n) a b (all_split p prefix n within) gains)
  where
    by : GainsPrefix a b (files_of p prefix) ⊎ (Gains a b (files_of p prefix) × (files_from p prefix n ≡ [])) → Stops p prefix a b NoMemory
    by (inl stopped) = inl stopped
    by (inr all) = inr (all.0, never_left p prefix n all.1)

-- the run could not start
no_files : (p : Settings) (prefix : List ℕ) → run_of p 0 ≡ too_many_at_start → [] ≡ files_of p prefix
unfolding run_of
no_files p prefix stop = sym (ap (map whole_file) (no_files_at_start p (kernel_of p) prefix (sym (run_first p (kernel_of p)) ∙ stop)))

pub stops_at_start : (p : Settings) (prefix : List ℕ) (a : Option (List Gained)) (fault : DenseFault) → CannotStart p fault → Stops p prefix a a (fault_of_run fault)
stops_at_start p prefix a dense.NoMemory cause = let least : 0 ≤ p.nlim + 1 = omega arith in out_of_memory p prefix 0 a a least (nothing_gained a)
stops_at_start p prefix a dense.TooManyAtStart cause = (subst (λ (v : List Gained). Gains a a v) (no_files p prefix cause) (nothing_gained a), cause)
stops_at_start p prefix a (dense.TooManyBlocks cycle leaves) cause = absurd cause

-- the run stopped at a cycle
files_then : (p : Settings) (prefix : List ℕ) (n leaves : ℕ) → n ≤ p.nlim → run_of p n ≡ too_many_at n leaves → files_before p prefix n ≡ files_of p prefix
unfolding run_of
files_then p prefix n leaves within stop = sym (ap (map whole_file) (files_of_stopped p (kernel_of p) prefix n leaves within stop))

-- the run stopped in a cycle, after those before it
pub stops_in : (p : Settings) (prefix : List ℕ) (n : ℕ) (a b c : Option (List Gained)) (fault : DriveFault) → n ≤ p.nlim → Gains a b (files_before p prefix n) → StopsIn p prefix n b c fault → Stops p prefix a c fault
stops_in p prefix n a b c WriteFault within gains stop = stops_at p prefix n a b c within gains stop
stops_in p prefix n a b c NoMemory within gains (inl same) = out_of_memory p prefix n a c (omega (arith, within)) (subst (λ (v : Option (List Gained)). Gains a v (files_before p prefix n)) (sym same) gains)
stops_in p prefix n a b c NoMemory within gains (inr (inl stop)) = inl (stops_at p prefix n a b c within gains stop)
stops_in p prefix n a b c NoMemory within gains (inr (inr more)) = out_of_memory p prefix (n + 1) a c (omega (arith, within)) (gains_next p prefix n (n + 1) a b c refl gains more)
stops_in p prefix n a b c TooManyAtStart within gains stop = absurd stop
stops_in p prefix n a b c (TooManyBlocks cycle leaves) within gains stop = (
  subst (λ (v : List Gained). Gains a c v) (files_then p prefix n leaves within stop.2) (subst (λ (v : Option (List Gained)). Gains a v (files_before p prefix n)) (sym stop.0) gains),
  omega (arith, within, stop.1),
  subst (λ (k : ℕ). run_of p k ≡ too_many_at k leaves) (sym stop.1) stop.2,
)

-- writing what is due after a cycle stopped
pub in_cycle : (p : Settings) (prefix : List ℕ) (n : ℕ) (b c : Option (List Gained)) (fault : DriveFault) → StopsAmong (files_at p prefix n) b c fault → StopsIn p prefix n b c fault
in_cycle p prefix n b c WriteFault stop = stop
in_cycle p prefix n b c NoMemory stop = inr stop
in_cycle p prefix n b c TooManyAtStart stop = absurd stop
in_cycle p prefix n b c (TooManyBlocks cycle leaves) stop = absurd stop

pub among : (files : List Gained) (b c : Option (List Gained)) (fault : DriveFault) → StopsWriting files b c fault → StopsAmong files b c fault
among files b c WriteFault stop = stop
among files b c NoMemory stop = inl stop
among files b c TooManyAtStart stop = absurd stop
among files b c (TooManyBlocks cycle leaves) stop = absurd stop

-- a run that could not go on stopped in its next cycle
pub no_next : (p : Settings) (prefix : List ℕ) (r : RunAt) (b : Option (List Gained)) (fault : DenseFault) → r.problem ≡ p → CannotGoOn r fault → StopsIn p prefix (r.cycle + 1) b b (fault_of_run fault)
no_next p prefix r b dense.NoMemory same cause = inl refl
no_next p prefix r b dense.TooManyAtStart same cause = absurd cause
no_next p prefix r b (dense.TooManyBlocks cycle leaves) same cause = (
  refl,
  cause.0,
  subst (λ (k : ℕ). run_of p k ≡ too_many_at k leaves) cause.0 (subst (λ (q : Settings). run_of q cycle ≡ too_many_at cycle leaves) same cause.1),
)

-- writing the history stopped
pub history_stops : (p : Settings) (prefix : List ℕ) (n : ℕ) (history : List ℕ) (a b c : Option (List Gained)) (fault : DriveFault) → n ≡ p.nlim → IsRunning (run_of p n) → history ≡ history_heading p ++ lines_until p (kernel_of p) n
    → Gains a b (files_before p prefix (n + 1)) → StopsWriting (history_file prefix history ∷ []) b c fault → Stops p prefix a c fault
history_stops p prefix n history a b c fault last runs lines gains stop = by fault stop
  where
    all : files_of p prefix ≡ (files_before p prefix (n + 1) ++ history_file prefix history ∷ []) ++ []
    all = all_with_history p prefix n history last runs lines ∙ sym (append-nil (files_before p prefix (n + 1) ++ history_file prefix history ∷ []))

    more : GainsPrefix b c (history_file prefix history ∷ []) → GainsPrefix a c (files_of p prefix)
    more stopped = gains_prefix_more a b c (files_of p prefix) (files_before p prefix (n + 1)) (history_file prefix history ∷ []) [] all gains stopped

    by : (f : DriveFault) → StopsWriting (history_file prefix history ∷ []) b c f → Stops p prefix a c f
    by WriteFault s = more s
    by NoMemory s = inl (more s)
    by TooManyAtStart s = absurd s
    by (TooManyBlocks cycle leaves) s = absurd s

-- all files were gained
pub all_gained : (p : Settings) (prefix : List ℕ) (n : ℕ) (history : List ℕ) (a b c : Option (List Gained)) → n ≡ p.nlim → IsRunning (run_of p n) → history ≡ history_heading p ++ lines_until p (kernel_of p) n
    → Gains a b (files_before p prefix (n + 1)) → Gains b c (history_file prefix history ∷ []) → Gains a c (files_of p prefix)
all_gained p prefix n history a b c last runs lines gains more =
    subst (λ (v : List Gained). Gains a c v) (sym (all_with_history p prefix n history last runs lines)) (gains_more a b c (files_before p prefix (n + 1)) (history_file prefix history ∷ []) gains more)
