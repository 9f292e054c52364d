-- The files of a run, one cycle after another.
use Rattle.std.proofs.Common.{◌≡◌, ℕ, zero, suc, ◌+◌, Bool, true, false, cond, List, [], ◌∷◌, ◌++◌, map, codes, refl, sym, ◌∙◌, ap, subst, arith, append_assoc}
use Rattle.std.specs.Prelude.{◌==◌}
use Rattle.std.specs.List.{flat_map, range_with_len}
use Rattle.std.proofs.lemmas.List.{map-append, append-nil}
use Rattle.std.proofs.lemmas.Bool.Decides.{nat_tests}
use Rattle.problem_set.specs.Settings.{Settings}
use Rattle.mesh_rules.specs.Run.{Outcome, Reached, running}
use Rattle.mesh_rules.specs.Texts.{dump_text, history_heading, history_of, line}
use Rattle.mesh_rules.specs.Files.{NamedText, dump_file_name, dumps_at, dumps_of_cycle, dumps_until, history_file_name, history_files, is_dumped, lines_of_cycle, lines_until, of_running}
use Rattle.mesh_rules.specs.Reaction.{kernel_of}
use Rattle.mesh_outside.specs.declared.files.File.{File}
use Rattle.dense_model.specs.Files.{file_of, files_until}
use Rattle.dense_model.specs.RunFiles.{IsRunning, RunAt, dump_after, of_run, run_of}

-- lists over ranges
pub range_parts : {X : Type 0} (f : ℕ → List X) (a n k : ℕ) → flat_map f (range_with_len a (n + k)) ≡ flat_map f (range_with_len a n) ++ flat_map f (range_with_len (a + n) k)
range_parts f a zero k = let e : 0 + k ≡ k = omega arith in let g : a ≡ a + 0 = omega arith in ap (λ v. flat_map f (range_with_len a v)) e ∙ ap (λ v. flat_map f (range_with_len v k)) g
range_parts f a (suc n) k =
    let e : suc n + k ≡ suc (n + k) = omega arith in
    let g : a + 1 + n ≡ a + suc n = omega arith in
    ap (λ v. flat_map f (range_with_len a v)) e
    ∙ ap (λ v. f a ++ v) (range_parts f (a + 1) n k)
    ∙ sym (append_assoc (f a) (flat_map f (range_with_len (a + 1) n)) (flat_map f (range_with_len (a + 1 + n) k)))
    ∙ ap (λ v. f a ++ flat_map f (range_with_len (a + 1) n) ++ flat_map f (range_with_len v k)) g

pub range_next : {X : Type 0} (f : ℕ → List X) (n : ℕ) → flat_map f (range_with_len 0 (n + 1)) ≡ flat_map f (range_with_len 0 n) ++ f n
range_next f n =
    let z : 0 + n ≡ n = omega arith in
    range_parts f 0 n 1 ∙ ap (λ v. flat_map f (range_with_len 0 n) ++ v) (append-nil (f (0 + n)) ∙ ap f z)

-- what a run that goes on gives after a cycle
dumps_are : (p : Settings) (prefix : List ℕ) (n : ℕ) (r : Reached) → run_of p n ≡ running r → dumps_of_cycle p (kernel_of p) prefix n ≡ dumps_at p prefix n r
unfolding run_of
dumps_are p prefix n r e = ap (of_running (dumps_at p prefix n)) e

-- a dump that is due is that of its cycle
pub due_dumps : (p : Settings) (prefix : List ℕ) (r : RunAt) (n : ℕ) (b : Bool) → r.problem ≡ p → IsRunning (run_of p r.cycle) → n ≡ r.cycle → b ≡ is_dumped p n → b ≡ true
    → (dump_file_name prefix r.cycle, dump_after r.problem r.cycle) ∷ [] ≡ dumps_of_cycle p (kernel_of p) prefix r.cycle
due_dumps p prefix r n b same runs is told holds =
    let reached = runs.0 in
    let due : is_dumped p r.cycle ≡ true = ap (is_dumped p) (sym is) ∙ sym told ∙ holds in
    ap (λ (q : Settings). (dump_file_name prefix r.cycle, dump_after q r.cycle) ∷ []) same
    ∙ ap (λ (o : Outcome). (dump_file_name prefix r.cycle, of_run (λ s. dump_text p s.state.mesh r.cycle) [] o) ∷ []) runs.1
    ∙ sym (dumps_are p prefix r.cycle reached runs.1 ∙ ap (λ (v : Bool). cond v ((dump_file_name prefix r.cycle, dump_text p reached.state.mesh r.cycle) ∷ []) []) due)

-- the same as a file
pub due_file : (p : Settings) (prefix : List ℕ) (r : RunAt) (n m : ℕ) (b : Bool) (name text : List ℕ) → r.problem ≡ p → IsRunning (run_of p r.cycle) → n ≡ r.cycle → m ≡ r.cycle → b ≡ is_dumped p n → b ≡ true
    → name ≡ dump_file_name prefix m → text ≡ dump_after r.problem r.cycle → file_of (name, text) ∷ [] ≡ map file_of (dumps_of_cycle p (kernel_of p) prefix r.cycle)
due_file p prefix r n m b name text same runs is is_too told holds named written =
    ap (λ (v : List ℕ). file_of (v, text) ∷ []) (named ∙ ap (dump_file_name prefix) is_too)
    ∙ ap (λ (v : List ℕ). file_of (dump_file_name prefix r.cycle, v) ∷ []) written
    ∙ ap (map file_of) (due_dumps p prefix r n b same runs is told holds)

-- where no dump is due there is none
pub no_dumps : (p : Settings) (prefix : List ℕ) (r : RunAt) (n : ℕ) (b : Bool) → IsRunning (run_of p r.cycle) → n ≡ r.cycle → b ≡ is_dumped p n → b ≡ false → [] ≡ dumps_of_cycle p (kernel_of p) prefix r.cycle
no_dumps p prefix r n b runs is told fails =
    let reached = runs.0 in
    let none : is_dumped p r.cycle ≡ false = ap (is_dumped p) (sym is) ∙ sym told ∙ fails in
    sym (dumps_are p prefix r.cycle reached runs.1 ∙ ap (λ (v : Bool). cond v ((dump_file_name prefix r.cycle, dump_text p reached.state.mesh r.cycle) ∷ []) []) none)

-- the history of a run that completes
pub history_is : (p : Settings) (prefix : List ℕ) → IsRunning (run_of p p.nlim) → history_files p (kernel_of p) prefix ≡ (history_file_name prefix, history_of p (lines_until p (kernel_of p) p.nlim)) ∷ []
unfolding run_of
history_is p prefix runs = ap (of_running (λ (r : Reached). (history_file_name prefix, history_of p (lines_until p (kernel_of p) p.nlim)) ∷ [])) runs.1

-- the lines of the first cycle, and of one cycle more
pub first_lines : (p : Settings) (history : List ℕ) → history ≡ history_heading p ++ lines_of_cycle p (kernel_of p) 0 → history ≡ history_heading p ++ lines_until p (kernel_of p) 0
first_lines p history e = e ∙ ap (λ (v : List ℕ). history_heading p ++ v) (sym (append-nil (lines_of_cycle p (kernel_of p) 0)))

pub lines_more : (p : Settings) (n m : ℕ) (before after : List ℕ) → m ≡ n + 1 → before ≡ history_heading p ++ lines_until p (kernel_of p) n → after ≡ before ++ lines_of_cycle p (kernel_of p) (n + 1) → after ≡ history_heading p ++ lines_until p (kernel_of p) m
lines_more p n m before after next e1 e2 =
    let heading = history_heading p in
    let lines = lines_until p (kernel_of p) n in
    let more = lines_of_cycle p (kernel_of p) (n + 1) in
    e2 ∙ ap (λ (v : List ℕ). v ++ more) e1 ∙ append_assoc heading lines more
    ∙ ap (λ (v : List ℕ). heading ++ v) (sym (range_next (lines_of_cycle p (kernel_of p)) (n + 1)))
    ∙ ap (λ (v : ℕ). heading ++ lines_until p (kernel_of p) v) (sym next)

pub started_lines : (p : Settings) (n : ℕ) (none before after : List ℕ) → n ≡ 0 → none ≡ [] → before ≡ none ++ history_heading p → after ≡ before ++ lines_of_cycle p (kernel_of p) n → after ≡ history_heading p ++ lines_until p (kernel_of p) n
started_lines p n none before after zeroth empty heading e =
    let more = lines_of_cycle p (kernel_of p) in
    e ∙ ap (λ (v : List ℕ). v ++ more n) (heading ∙ ap (λ (v : List ℕ). v ++ history_heading p) empty)
    ∙ ap (λ (k : ℕ). history_heading p ++ more k) zeroth
    ∙ ap (λ (v : List ℕ). history_heading p ++ v) (sym (append-nil (more 0)))
    ∙ ap (λ (k : ℕ). history_heading p ++ lines_until p (kernel_of p) k) (sym zeroth)

-- the dumps so far as files
abbrev pub dumps_to : Settings → List ℕ → ℕ → List File
dumps_to p prefix n = map file_of (dumps_until p (kernel_of p) prefix n)

pub first_files : (p : Settings) (prefix : List ℕ) (n : ℕ) (before after : List File) → n ≡ 0 → before ≡ [] → after ≡ before ++ map file_of (dumps_of_cycle p (kernel_of p) prefix n) → after ≡ dumps_to p prefix n
first_files p prefix n before after none empty e =
    let d : ℕ → List NamedText = dumps_of_cycle p (kernel_of p) prefix in
    e ∙ ap (λ (v : List File). v ++ map file_of (d n)) empty
    ∙ ap (λ (k : ℕ). map file_of (d k)) none
    ∙ ap (map file_of) (sym (append-nil (d 0)))
    ∙ ap (dumps_to p prefix) (sym none)

pub files_more : (p : Settings) (prefix : List ℕ) (n m : ℕ) (before after : List File) → m ≡ n + 1 → before ≡ dumps_to p prefix n → after ≡ before ++ map file_of (dumps_of_cycle p (kernel_of p) prefix (n + 1)) → after ≡ dumps_to p prefix m
files_more p prefix n m before after next e1 e2 =
    let d : ℕ → List NamedText = dumps_of_cycle p (kernel_of p) prefix in
    e2 ∙ ap (λ (v : List File). v ++ map file_of (d (n + 1))) e1
    ∙ sym (map-append file_of (dumps_until p (kernel_of p) prefix n) (d (n + 1)))
    ∙ ap (map file_of) (sym (range_next d (n + 1)))
    ∙ ap (dumps_to p prefix) (sym next)

-- the history behind the dumps, where all cycles were run
history_due : (p : Settings) (prefix : List ℕ) (n : ℕ) (history : List ℕ) (b : Bool) → b ≡ (n == p.nlim) → IsRunning (run_of p n) → history ≡ history_heading p ++ lines_until p (kernel_of p) n
    → cond b ((history_file_name prefix, history ++ line (codes "end")) ∷ []) [] ≡ cond b (history_files p (kernel_of p) prefix) []
history_due p prefix n history false is runs lines = refl
history_due p prefix n history true is runs lines =
    let last : n ≡ p.nlim = grind (arith, nat_tests) in
    let runs_last : IsRunning (run_of p p.nlim) = subst (λ (v : ℕ). IsRunning (run_of p v)) last runs in
    ap (λ (v : List ℕ). let f : NamedText = (history_file_name prefix, v ++ line (codes "end")) in f ∷ []) (lines ∙ ap (λ (v : ℕ). history_heading p ++ lines_until p (kernel_of p) v) last)
    ∙ sym (history_is p prefix runs_last)

pub all_files : (p : Settings) (prefix : List ℕ) (r : RunAt) (n : ℕ) (history : List ℕ) (before after : List File) → r.problem ≡ p → r.cycle ≡ n → IsRunning (run_of p r.cycle) → history ≡ history_heading p ++ lines_until p (kernel_of p) r.cycle
    → before ≡ dumps_to p prefix r.cycle → after ≡ before ++ map file_of (cond (r.cycle == r.problem.nlim) ((history_file_name prefix, history ++ line (codes "end")) ∷ []) []) → after ≡ map file_of (files_until p prefix n)
all_files p prefix r n history before after same here runs lines e1 e2 =
    let h : NamedText = (history_file_name prefix, history ++ line (codes "end")) in
    e2
    ∙ ap (λ (q : Settings). before ++ map file_of (cond (r.cycle == q.nlim) (h ∷ []) [])) same
    ∙ ap (λ (v : List File). v ++ map file_of (cond (r.cycle == p.nlim) (h ∷ []) [])) e1
    ∙ sym (map-append file_of (dumps_until p (kernel_of p) prefix r.cycle) (cond (r.cycle == p.nlim) (h ∷ []) []))
    ∙ ap (λ (v : List NamedText). map file_of (dumps_until p (kernel_of p) prefix r.cycle ++ v)) (history_due p prefix r.cycle history (r.cycle == p.nlim) refl runs lines)
    ∙ ap (λ (k : ℕ). map file_of (files_until p prefix k)) here
