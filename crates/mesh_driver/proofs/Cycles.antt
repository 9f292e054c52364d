-- The files of a run, one cycle after another.
use Rattle.std.proofs.Common.{◌≡◌, ℕ, zero, suc, ◌+◌, ◌-◌, ◌<◌, ◌≤◌, Bool, true, false, cond, List, [], ◌∷◌, ◌++◌, length, map, Option, Some, None, IsTrue, codes, refl, sym, ◌∙◌, ap, subst, arith, append_assoc}
use Rattle.std.specs.List.{flat_map, range_with_len}
use Rattle.std.specs.Option.{ForSome}
use Rattle.std.proofs.lemmas.List.{map-append, append-nil, get_or-map, length-map}
use Rattle.problem_set.specs.Settings.{Settings}
use Rattle.mesh_rules.specs.Run.{Outcome, Reached, running}
use Rattle.mesh_rules.specs.Texts.{dump_text, history_heading, line}
use Rattle.mesh_rules.specs.Files.{NamedText, dump_file_name, dumps_at, dumps_of_cycle, history_file_name, history_files, is_dumped, lines_of_cycle, lines_until, of_running}
use Rattle.mesh_rules.specs.Texts.{history_of}
use Rattle.mesh_rules.specs.Reaction.{kernel_of}
use Rattle.dense_model.specs.RunFiles.{IsRunning, RunAt, dump_after, run_of}
use Rattle.dense_model.proofs.FileLists.{due_dumps, first_lines, history_is, lines_more, no_dumps, range_next, range_parts}
use Rattle.mesh_outside.specs.declared.files.Gained.{Gained}
use Rattle.mesh_outside.specs.Gained.{IsClosed, Gains, GainsPrefix}
use Rattle.mesh_driver.specs.Files.{whole_file, files_at, files_of}
use Rattle.mesh_driver.proofs.Gaining.{closed_after, gains_more, gains_prefix_more}

-- the dumps of a cycle
abbrev dumps_in : Settings → List ℕ → ℕ → List NamedText
dumps_in p prefix n = dumps_of_cycle p (kernel_of p) prefix n

-- the files before those of a cycle, and those from it on
abbrev pub files_before : Settings → List ℕ → ℕ → List Gained
files_before p prefix n = map whole_file (flat_map (dumps_in p prefix) (range_with_len 0 n))

abbrev pub files_from : Settings → List ℕ → ℕ → List Gained
files_from p prefix n = map whole_file (flat_map (dumps_in p prefix) (range_with_len n (p.nlim + 1 - n)) ++ history_files p (kernel_of p) prefix)

-- the files of one cycle more
one_more : (p : Settings) (prefix : List ℕ) (n : ℕ) → files_before p prefix (n + 1) ≡ files_before p prefix n ++ files_at p prefix n
one_more p prefix n =
    ap (map whole_file) (range_next (dumps_in p prefix) n)
    ∙ map-append whole_file (flat_map (dumps_in p prefix) (range_with_len 0 n)) (dumps_in p prefix n)

-- all files are those before a cycle, and those from it on
pub all_split : (p : Settings) (prefix : List ℕ) (n : ℕ) → n ≤ p.nlim + 1 → files_of p prefix ≡ files_before p prefix n ++ files_from p prefix n
all_split p prefix n within =
    let f : ℕ → List NamedText = dumps_in p prefix in
    let whole : p.nlim + 1 ≡ n + (p.nlim + 1 - n) = omega (arith, within) in
    let z : 0 + n ≡ n = omega arith in
    let history = history_files p (kernel_of p) prefix in
    let rest = flat_map f (range_with_len n (p.nlim + 1 - n)) in
    ap (λ (v : ℕ). map whole_file (flat_map f (range_with_len 0 v) ++ history)) whole
    ∙ ap (λ (v : List NamedText). map whole_file (v ++ history)) (range_parts f 0 n (p.nlim + 1 - n) ∙ ap (λ (v : ℕ). flat_map f (range_with_len 0 n) ++ flat_map f (range_with_len v (p.nlim + 1 - n))) z)
    ∙ ap (map whole_file) (append_assoc (flat_map f (range_with_len 0 n)) rest history)
    ∙ map-append whole_file (flat_map f (range_with_len 0 n)) (rest ++ history)

-- those of the cycle stand in between
all_around : (p : Settings) (prefix : List ℕ) (n : ℕ) → n ≤ p.nlim → files_of p prefix ≡ (files_before p prefix n ++ files_at p prefix n) ++ files_from p prefix (n + 1)
all_around p prefix n within =
    all_split p prefix (n + 1) (omega (arith, within)) ∙ ap (λ (v : List Gained). v ++ files_from p prefix (n + 1)) (one_more p prefix n)

-- the files of one cycle more were gained
pub gains_next : (p : Settings) (prefix : List ℕ) (n m : ℕ) (a b c : Option (List Gained)) → m ≡ n + 1 → Gains a b (files_before p prefix n) → Gains b c (files_at p prefix n) → Gains a c (files_before p prefix m)
gains_next p prefix n m a b c next first second =
    let more : Gains a c (files_before p prefix (n + 1)) = subst (λ (v : List Gained). Gains a c v) (sym (one_more p prefix n)) (gains_more a b c (files_before p prefix n) (files_at p prefix n) first second) in
    subst (λ (v : ℕ). Gains a c (files_before p prefix v)) (sym next) more

-- writing stopped among the files of a cycle
pub stops_at : (p : Settings) (prefix : List ℕ) (n : ℕ) (a b c : Option (List Gained)) → n ≤ p.nlim → Gains a b (files_before p prefix n) → GainsPrefix b c (files_at p prefix n) → GainsPrefix a c (files_of p prefix)
stops_at p prefix n a b c within first stopped =
    gains_prefix_more a b c (files_of p prefix) (files_before p prefix n) (files_at p prefix n) (files_from p prefix (n + 1))
    (all_around p prefix n within) first stopped

-- nothing was gained
pub nothing_gained : (a : Option (List Gained)) → Gains a a []
nothing_gained None = refl
nothing_gained (Some w) = ap Some (sym (append-nil w))

-- the files of a cycle are finished
all_whole : (files : List NamedText) → IsClosed (map whole_file files)
all_whole files = λ k d below.
    let inside : k < length files = omega (arith, below, length-map files whole_file) in
    subst (λ (g : Gained). IsTrue g.whole) (sym (get_or-map whole_file files k ([], []) d inside)) refl

pub closed_behind : (p : Settings) (prefix : List ℕ) (n : ℕ) (a b : Option (List Gained)) → Gains a b (files_at p prefix n) → ForSome a IsClosed → ForSome b IsClosed
closed_behind p prefix n a b gains closed = closed_after a b (files_at p prefix n) gains closed (all_whole (dumps_in p prefix n))

-- a dump that is due is the files of its cycle
pub due_files : (p : Settings) (prefix : List ℕ) (r : RunAt) (n : ℕ) (b : Bool) → r.problem ≡ p → IsRunning (run_of p r.cycle) → n ≡ r.cycle → b ≡ is_dumped p n → b ≡ true
    → whole_file (dump_file_name prefix r.cycle, dump_after r.problem r.cycle) ∷ [] ≡ files_at p prefix r.cycle
due_files p prefix r n b same runs is told holds = ap (map whole_file) (due_dumps p prefix r n b same runs is told holds)

-- where no dump is due there is none
pub none_due : (p : Settings) (prefix : List ℕ) (r : RunAt) (n : ℕ) (b : Bool) → IsRunning (run_of p r.cycle) → n ≡ r.cycle → b ≡ is_dumped p n → b ≡ false → [] ≡ files_at p prefix r.cycle
none_due p prefix r n b runs is told fails = ap (map whole_file) (no_dumps p prefix r n b runs is told fails)

-- the file of the history
abbrev pub history_file : List ℕ → List ℕ → Gained
history_file prefix history = whole_file (history_file_name prefix, history ++ line (codes "end"))

-- all files are those of all cycles, and the history
pub all_with_history : (p : Settings) (prefix : List ℕ) (n : ℕ) (history : List ℕ) → n ≡ p.nlim → IsRunning (run_of p n) → history ≡ history_heading p ++ lines_until p (kernel_of p) n
    → files_of p prefix ≡ files_before p prefix (n + 1) ++ history_file prefix history ∷ []
all_with_history p prefix n history last runs lines =
    let runs_last : IsRunning (run_of p p.nlim) = subst (λ (v : ℕ). IsRunning (run_of p v)) last runs in
    let f : ℕ → List NamedText = dumps_in p prefix in
    let whole : history ≡ history_heading p ++ lines_until p (kernel_of p) p.nlim = lines ∙ ap (λ (v : ℕ). history_heading p ++ lines_until p (kernel_of p) v) last in
    map-append whole_file (flat_map f (range_with_len 0 (p.nlim + 1))) (history_files p (kernel_of p) prefix)
    ∙ ap (λ (v : List NamedText). files_before p prefix (p.nlim + 1) ++ map whole_file v) (history_is p prefix runs_last)
    ∙ ap (λ (v : List ℕ). files_before p prefix (p.nlim + 1) ++ history_file prefix v ∷ []) (sym whole)
    ∙ ap (λ (v : ℕ). files_before p prefix (v + 1) ++ history_file prefix history ∷ []) (sym last)

-- the same of a run that was just started
pub started_gains : (p : Settings) (prefix : List ℕ) (n : ℕ) (a c : Option (List Gained)) → n ≡ 0 → Gains a c (files_at p prefix 0) → Gains a c (files_before p prefix (n + 1))
started_gains p prefix n a c none gains =
    let next : n + 1 ≡ 0 + 1 = omega (arith, none) in
    gains_next p prefix 0 (n + 1) a a c next (nothing_gained a) gains

pub started_lines : (p : Settings) (n : ℕ) (before after : List ℕ) → n ≡ 0 → before ≡ [] → after ≡ before ++ (history_heading p ++ lines_of_cycle p (kernel_of p) 0) → after ≡ history_heading p ++ lines_until p (kernel_of p) n
started_lines p n before after none empty e =
    first_lines p after (e ∙ ap (λ (v : List ℕ). v ++ (history_heading p ++ lines_of_cycle p (kernel_of p) 0)) empty)
    ∙ ap (λ (v : ℕ). history_heading p ++ lines_until p (kernel_of p) v) (sym none)
