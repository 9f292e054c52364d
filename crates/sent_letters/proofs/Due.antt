-- The letters of a block, and those of a list.
use Rattle.std.proofs.Common.{◌≡◌, ◌==◌, ℕ, zero, suc, ◌+◌, ◌-◌, ◌<◌, ◌≤◌, Bool, true, false, ◌&&◌, cond, not, nat_le, nat_lt, List, [], ◌∷◌, ◌++◌, All, map, length, take, drop, refl, arith, ap, subst, sym, ◌∙◌, add-one}
use Rattle.std.specs.List.{filter, flat_map, list_any, range_with_len, slice_index_or, slice_range}
use Rattle.std.proofs.lemmas.Grind.{flat_map-append}
use Rattle.std.proofs.lemmas.List.{append_assoc, get_or-drop, get_or-take, length-take, map-append}
use Rattle.std.proofs.lemmas.Bool.{eqb-true, eq-eqb}
use Rattle.std.proofs.lemmas.Bool.Decides.{nat_tests}
use Rattle.morton_order.specs.declared.space.Loc.{Loc}
use Rattle.morton_order.specs.declared.space.Side.{Side}
use Rattle.morton_order.proofs.Lists.{append_nil, range_more}
use Rattle.block_tree.specs.Behind.{behind}
use Rattle.block_tree.specs.declared.neighbour.Behind.{Behind as Answer}
use Rattle.block_tree.specs.Blocks.{leaves}
use Rattle.mesh_rules.specs.Mesh.{is_inner, leaf_number}
use Rattle.mesh_rules.specs.Due.{Exchange, letters_across, letters_of}
use Rattle.field_bufs.specs.declared.buf.FieldBuf.{FieldBuf}
use Rattle.ghost_buffers.specs.declared.letter.Letter.{Letter}
use Rattle.cycle_kernels.specs.Blocks.{CycleMesh, leaf_at, owner_of}
use Rattle.cycle_kernels.specs.Laws.{IsCycleMesh}
use Rattle.cycle_kernels.specs.Letters.{same_letter}
use Rattle.cycle_kernels.proofs.Letters.{letter_same}
use Rattle.task_meshes.specs.declared.kind.LetterKind.{LetterKind}
use Rattle.task_meshes.specs.Kinds.{IsDue, due_of, receivers_of}
use Rattle.task_meshes.specs.Meshes.{leaf_count, mesh_of}
use Rattle.task_meshes.specs.Orders.{AreOfBlock, buf_at, no_buf, of_block}
use Rattle.task_meshes.proofs.Lists.{any_flat, any_left, any_mapped, any_numbered, any_right, filter_both, filter_flat, filter_part, filter_same, map_both, map_flat, map_more, map_same, map_twice, rest_ends, rest_from, rest_next, rest_skip}
use Rattle.task_meshes.proofs.Told.{Answers, answered}
use Rattle.sent_letters.specs.Receivers.{numbers_behind}
use Rattle.sent_letters.proofs.Numbers.{place_among, told_numbers}
use Rattle.sent_letters.specs.declared.block_sender.BlockSender.{BlockSender}
use Rattle.sent_letters.specs.Sent.{CanSend, MayMakePart, MayMakeParts, MaySend, MaySendTo, letter_by, letter_from, letter_to, letter_with, letters_over, letters_sent}

-- letters across a side are among those of the block, and those are due
abbrev pub side_letters : BlockSender → ℕ → List Exchange
side_letters s axis = letters_over s (record { axis = axis; high = true }) ++ letters_over s (record { axis = axis; high = false })

abbrev across_axis : BlockSender → ℕ → List Exchange
across_axis s axis =
    letters_across (mesh_of s.on.now).mesh (receivers_of s.kind) s.block (leaf_at (mesh_of s.on.now) s.block) axis false
    ++ letters_across (mesh_of s.on.now).mesh (receivers_of s.kind) s.block (leaf_at (mesh_of s.on.now) s.block) axis true

over_due : (s : BlockSender) (axis : ℕ) (high : Bool) (x : Exchange) → s.block < leaf_count s.on.now → axis < s.on.now.tree.now.shape.dims →
    list_any (same_letter x) (letters_over s (record { axis = axis; high = high })) ≡ true → IsDue s.kind (mesh_of s.on.now) x
over_due s axis high x few used h =
    let w = mesh_of s.on.now in
    any_numbered (same_letter x) (letters_of w.mesh (receivers_of s.kind)) 0 (leaves s.on.now.tree.now) s.block _ few
    (subst (λ v. list_any (same_letter x) (letters_of w.mesh (receivers_of s.kind) v (leaf_at w s.block)) ≡ true) (plain s.block)
    (any_flat (same_letter x) (across_axis s) 0 w.mesh.shape.dims axis used
    (subst (λ v. list_any (same_letter x) (across_axis s v) ≡ true) (plain axis) (by high h))))
  where
    plain : (n : ℕ) → n ≡ 0 + n
    plain n = omega arith

    by : (high : Bool) → list_any (same_letter x) (letters_over s (record { axis = axis; high = high })) ≡ true → list_any (same_letter x) (across_axis s axis) ≡ true
    by true h = any_left (same_letter x) (letters_over s (record { axis = axis; high = true })) (letters_over s (record { axis = axis; high = false })) h
    by false h = any_right (same_letter x) (letters_over s (record { axis = axis; high = true })) (letters_over s (record { axis = axis; high = false })) h

-- a block may send to each of the leaves that are due a letter across a side
pub each_due : (s : BlockSender) (side : Side) (ns : List ℕ) (k : ℕ) → MaySend s → side.axis < s.on.now.tree.now.shape.dims → letters_over s side ≡ map (letter_to s side) ns →
    All (λ n. n < leaf_count s.on.now) ns → k < length ns → s.on.now.layout.now.dims ≡ s.on.now.tree.now.shape.dims → MaySendTo s side (slice_index_or ns k 0)
each_due s side ns k may used is few inside same =
    let n = slice_index_or ns k 0 in
    let w = mesh_of s.on.now in
    let among : list_any (same_letter (letter_to s side n)) (letters_over s side) ≡ true =
    ap (list_any (same_letter (letter_to s side n))) is ∙ any_mapped (same_letter (letter_to s side n)) (letter_to s side) ns k 0 inside (letter_same (letter_to s side n)) in
    record {
      axis = subst (λ v. side.axis < v) (sym same) used;
      from_few = may.few;
      to_few = few k 0 inside;
      parts = may.parts (letter_to s side n) (over_due s side.axis side.high (letter_to s side n) may.few used among) refl;
    }

pub any_default : (ns : List ℕ) (k d e : ℕ) → k < length ns → slice_index_or ns k d ≡ slice_index_or ns k e
any_default [] k d e few = absurd (omega arith)
any_default (n ∷ ns) zero d e few = refl
any_default (n ∷ ns) (suc k) d e few = any_default ns k d e (omega arith)

-- the leaves behind a side, by what the tree answers
pub record AreAcross (s : BlockSender) (side : Side) (ns : List ℕ) : Type 0 where
  pub letters : letters_over s side ≡ map (letter_to s side) ns
  pub few : All (λ n. n < leaf_count s.on.now) ns

pub across_told : (s : BlockSender) (side : Side) (a : Answer) (ns : List ℕ) → s.block < leaf_count s.on.now → Answers s.on.now s.block side.axis (not side.high) a → ns ≡ numbers_behind s.kind a →
    AreAcross s side ns
across_told s side a ns few told is =
    let w = mesh_of s.on.now in
    let ls = leaves s.on.now.tree.now in
    let x = behind w.mesh.shape (is_inner w.mesh) (leaf_at w s.block) side.axis (not side.high) in
    let numbers = told_numbers s.kind ls x a (answered s.on.now s.block side.axis (not side.high) a few told) in
    subst (λ (v : List ℕ). AreAcross s side v) (sym is) (record {
      letters = sym (map_twice (letter_to s side) (place_among ls) (receivers_of s.kind x)) ∙ ap (map (letter_to s side)) numbers.are;
      few = numbers.few;
    })

-- what is sent across a side
pub over_sent : (s : BlockSender) (side : Side) (ns : List ℕ) → letters_over s side ≡ map (letter_to s side) ns → map (letter_from s side) ns ≡ map (letter_by s) (letters_over s side)
over_sent s side ns is = sym (map_twice (letter_by s) (letter_to s side) ns) ∙ ap (map (letter_by s)) (sym is)

-- one finer leaf more
pub finer_more : (s : BlockSender) (side : Side) (tos : List ℕ) (k to : ℕ) (start before after : List Letter) → k < length tos → to ≡ slice_index_or tos k 0 → before ≡ start ++ map (letter_from s side) (take k tos) →
    after ≡ before ++ letter_from s side to ∷ [] → after ≡ start ++ map (letter_from s side) (take (k + 1) tos)
finer_more s side tos k to start before after few to_is is more =
    let old : List Letter = map (letter_from s side) (take k tos) in
    more ∙ ap (λ (v : List Letter). v ++ letter_from s side to ∷ []) is
    ∙ append_assoc start old (letter_from s side to ∷ [])
    ∙ ap (λ (v : List Letter). start ++ v) (map_more (letter_from s side) tos k 0 old (old ++ letter_from s side to ∷ []) few refl (ap (λ n. old ++ letter_from s side n ∷ []) to_is))

-- what is sent across the sides of the first axes
abbrev pub sent_along : BlockSender → ℕ → List Letter
sent_along s n = map (letter_by s) (flat_map (side_letters s) (range_with_len 0 n))

pub sent_more : (s : BlockSender) (n : ℕ) (start before middle after : List Letter) → before ≡ start ++ sent_along s n →
    middle ≡ before ++ map (letter_by s) (letters_over s (record { axis = n; high = true })) →
    after ≡ middle ++ map (letter_by s) (letters_over s (record { axis = n; high = false })) → after ≡ start ++ sent_along s (n + 1)
sent_more s n start before middle after is low top =
    let one = map (letter_by s) (letters_over s (record { axis = n; high = true })) in
    let two = map (letter_by s) (letters_over s (record { axis = n; high = false })) in
    top ∙ ap (λ v. v ++ two) (low ∙ ap (λ v. v ++ one) is)
    ∙ append_assoc (start ++ sent_along s n) one two
    ∙ append_assoc start (sent_along s n) (one ++ two)
    ∙ ap (λ v. start ++ v) (grown n)
  where
    last : (n : ℕ) → flat_map (side_letters s) (range_with_len 0 (n + 1)) ≡ flat_map (side_letters s) (range_with_len 0 n) ++ side_letters s n
    last n =
        ap (flat_map (side_letters s)) (ap (range_with_len 0) (add-one n) ∙ range_more 0 n ∙ ap (λ v. range_with_len 0 n ++ v ∷ []) (plain n))
        ∙ flat_map-append (side_letters s) (range_with_len 0 n) (n ∷ [])
        ∙ ap (λ v. flat_map (side_letters s) (range_with_len 0 n) ++ v) (append_nil (side_letters s n))
      where
        plain : (n : ℕ) → 0 + n ≡ n
        plain n = omega arith

    grown : (n : ℕ) → sent_along s n ++ (map (letter_by s) (letters_over s (record { axis = n; high = true })) ++ map (letter_by s) (letters_over s (record { axis = n; high = false }))) ≡ sent_along s (n + 1)
    grown n =
        ap (λ v. sent_along s n ++ v) (sym (map-append (letter_by s) (letters_over s (record { axis = n; high = true })) (letters_over s (record { axis = n; high = false }))))
        ∙ sym (map-append (letter_by s) (flat_map (side_letters s) (range_with_len 0 n)) (side_letters s n))
        ∙ ap (map (letter_by s)) (sym (last n))

-- the letters of a leaf come from it
of_leaf : (kind : LetterKind) (w : CycleMesh) (b : ℕ) (l : Loc) (p : Exchange → Bool) (t : Bool) → ((x : Exchange) → x.from ≡ b → p x ≡ t) →
    filter p (letters_of w.mesh (receivers_of kind) b l) ≡ cond t (letters_of w.mesh (receivers_of kind) b l) []
of_leaf kind w b l p t all =
    filter_flat p t (λ axis. letters_across w.mesh (receivers_of kind) b l axis false ++ letters_across w.mesh (receivers_of kind) b l axis true) (range_with_len 0 w.mesh.shape.dims)
    (λ axis. filter_both p t (letters_across w.mesh (receivers_of kind) b l axis false) (letters_across w.mesh (receivers_of kind) b l axis true) (across axis false) (across axis true))
  where
    across : (axis : ℕ) (high : Bool) → filter p (letters_across w.mesh (receivers_of kind) b l axis high) ≡ cond t (letters_across w.mesh (receivers_of kind) b l axis high) []
    across axis high =
        filter_same p t (λ to. record { from = b; to = leaf_number w.mesh to; axis = axis; high = not high }) (receivers_of kind (behind w.mesh.shape (is_inner w.mesh) l axis high))
        (λ o. all (record { from = b; to = leaf_number w.mesh o; axis = axis; high = not high }) refl)

map_leaf : (kind : LetterKind) (w : CycleMesh) (b : ℕ) (l : Loc) (f g : Exchange → Letter) → ((x : Exchange) → x.from ≡ b → f x ≡ g x) →
    map f (letters_of w.mesh (receivers_of kind) b l) ≡ map g (letters_of w.mesh (receivers_of kind) b l)
map_leaf kind w b l f g all =
    map_flat f g (λ axis. letters_across w.mesh (receivers_of kind) b l axis false ++ letters_across w.mesh (receivers_of kind) b l axis true) (range_with_len 0 w.mesh.shape.dims)
    (λ axis. map_both f g (letters_across w.mesh (receivers_of kind) b l axis false) (letters_across w.mesh (receivers_of kind) b l axis true) (across axis false) (across axis true))
  where
    across : (axis : ℕ) (high : Bool) → map f (letters_across w.mesh (receivers_of kind) b l axis high) ≡ map g (letters_across w.mesh (receivers_of kind) b l axis high)
    across axis high =
        map_same f g (λ to. record { from = b; to = leaf_number w.mesh to; axis = axis; high = not high }) (receivers_of kind (behind w.mesh.shape (is_inner w.mesh) l axis high))
        (λ o. all (record { from = b; to = leaf_number w.mesh o; axis = axis; high = not high }) refl)

-- the letters of a list from a block on, of a mesh with these leaves
module _ (kind : LetterKind) (w : CycleMesh) (list : ℕ) where
  abbrev pub is_owned : Exchange → Bool
  is_owned x = owner_of w x.from == list

  abbrev pub rest_of : ℕ → List Exchange
  rest_of b = rest_from is_owned (letters_of w.mesh (receivers_of kind)) w.mesh.leaves b

  none_of : (b : ℕ) (l : Loc) → (owner_of w b == list) ≡ false → filter is_owned (letters_of w.mesh (receivers_of kind) b l) ≡ []
  none_of b l e = of_leaf kind w b l is_owned false (λ x from. ap (λ v. owner_of w v == list) from ∙ e)

  all_of : (b : ℕ) (l : Loc) → (owner_of w b == list) ≡ true → filter is_owned (letters_of w.mesh (receivers_of kind) b l) ≡ letters_of w.mesh (receivers_of kind) b l
  all_of b l e = of_leaf kind w b l is_owned true (λ x from. ap (λ v. owner_of w v == list) from ∙ e)

-- blocks from a number to another are those of a list
pub record AreOwned (w : CycleMesh) (list first end : ℕ) : Type 0 where
  pub ordered : first ≤ end
  pub within : end ≤ length w.mesh.leaves
  pub owned : (b : ℕ) → b < length w.mesh.leaves → (owner_of w b == list) ≡ (nat_le first b && nat_lt b end)

inside_true : (first b end : ℕ) → first ≤ b → b < end → (nat_le first b && nat_lt b end) ≡ true
inside_true first b end low few = grind (arith, nat_tests)

before_false : (first b end : ℕ) → b < first → (nat_le first b && nat_lt b end) ≡ false
before_false first b end low = grind (arith, nat_tests)

after_false : (first b end : ℕ) → end ≤ b → (nat_le first b && nat_lt b end) ≡ false
after_false first b end low = grind (arith, nat_tests)

pub owns : (w : CycleMesh) (list first end b : ℕ) → AreOwned w list first end → first ≤ b → b < end → (owner_of w b == list) ≡ true
owns w list first end b are low few = are.owned b (omega arith) ∙ inside_true first b end low few

-- all letters of a list are those from its first block on, and none is left after its last
plain : (n : ℕ) → 0 + n ≡ n
plain n = omega arith

abbrev nowhere : Loc
nowhere = record { level = 0; l1 = 0; l2 = 0; l3 = 0 }

pub rest_starts : (kind : LetterKind) (w : CycleMesh) (list first end : ℕ) → AreOwned w list first end → filter (is_owned kind w list) (due_of kind w) ≡ rest_of kind w list first
rest_starts kind w list first end are =
    rest_skip (is_owned kind w list) (letters_of w.mesh (receivers_of kind)) w.mesh.leaves nowhere 0 first (omega arith)
    (λ k low few. none_of kind w list k (leaf_at w k) (are.owned k (omega arith) ∙ before_false first k end (omega arith)))
    ∙ ap (rest_of kind w list) (plain first)

pub rest_stops : (kind : LetterKind) (w : CycleMesh) (list first end : ℕ) → AreOwned w list first end → rest_of kind w list end ≡ []
rest_stops kind w list first end are =
    rest_ends (is_owned kind w list) (letters_of w.mesh (receivers_of kind)) w.mesh.leaves nowhere end are.within
    (λ k low few. none_of kind w list k (leaf_at w k) (are.owned k few ∙ after_false first k end low))

pub rest_goes_on : (kind : LetterKind) (w : CycleMesh) (list first end b : ℕ) → AreOwned w list first end → first ≤ b → b < end →
    rest_of kind w list b ≡ letters_of w.mesh (receivers_of kind) b (leaf_at w b) ++ rest_of kind w list (b + 1)
rest_goes_on kind w list first end b are low few =
    rest_next (is_owned kind w list) (letters_of w.mesh (receivers_of kind)) w.mesh.leaves b _ (omega (arith, are.within))
    ∙ ap (λ v. v ++ rest_of kind w list (b + 1)) (all_of kind w list b (leaf_at w b) (owns w list first end b are low few))

-- the buffers of a block stand between two places
pub own_is : (bufs : List FieldBuf) (block start end : ℕ) → AreOfBlock bufs block start end → slice_range bufs start end ≡ of_block bufs block
own_is bufs block start end are =
    let e : start + (end - start) ≡ end = omega (arith, are.ordered) in
    sym (filter_part (λ (buf : FieldBuf). buf.block == block) no_buf bufs start (end - start) (omega (arith, are.ordered, are.within))
    (λ k less. other (buf_at bufs k).block block (are.before k less))
    (λ k low less. eq-eqb (buf_at bufs k).block block (are.here k low (omega arith)))
    (λ k low few. other (buf_at bufs k).block block (are.after k (omega arith) few)))
  where
    other : (a b : ℕ) → (a ≡ b → ⊥) → (a == b) ≡ false
    other a b h = grind (arith, nat_tests, h)

pub own_at : (bufs : List FieldBuf) (block start end k : ℕ) → AreOfBlock bufs block start end → k < length (slice_range bufs start end) → (k < end - start) × (buf_at (slice_range bufs start end) k ≡ buf_at bufs (start + k))
own_at bufs block start end k are few =
    let inside : k < end - start = omega (arith, length-take (end - start) (drop start bufs)) in
    (inside, get_or-take (end - start) (drop start bufs) k no_buf inside ∙ get_or-drop start bufs k no_buf)

-- so a block may send its letters
pub may_send : (s : BlockSender) (list first end start stop : ℕ) (bufs : List FieldBuf) → CanSend s.kind (mesh_of s.on.now) list bufs → AreOwned (mesh_of s.on.now) list first end → first ≤ s.block → s.block < end →
    AreOfBlock bufs s.block start stop → s.bufs.now ≡ slice_range bufs start stop → (x : Exchange) → IsDue s.kind (mesh_of s.on.now) x → x.from ≡ s.block → MayMakeParts s.kind (mesh_of s.on.now) x s.bufs.now
may_send s list first end start stop bufs can are low few of_block own x due from k inside =
    let w = mesh_of s.on.now in
    let here = own_at bufs s.block start stop k of_block (subst (λ (v : List FieldBuf). k < length v) own inside) in
    let owner : owner_of w x.from ≡ list = eqb-true (owner_of w x.from) list (ap (λ v. owner_of w v == list) from ∙ owns w list first end s.block are low few) in
    let block : (buf_at bufs (start + k)).block ≡ x.from = of_block.here (start + k) (omega arith) (omega (arith, here.0)) ∙ sym from in
    subst (λ (v : FieldBuf). MayMakePart s.kind w x v) (sym (ap (λ (v : List FieldBuf). buf_at v k) own ∙ here.1))
    (can x (start + k) due owner (omega (arith, here.0, of_block.within)) block)

pub may_send_all : (s : BlockSender) (list first end start stop : ℕ) (bufs : List FieldBuf) → IsCycleMesh (mesh_of s.on.now) → CanSend s.kind (mesh_of s.on.now) list bufs → AreOwned (mesh_of s.on.now) list first end →
    first ≤ s.block → s.block < end → AreOfBlock bufs s.block start stop → s.bufs.now ≡ slice_range bufs start stop → MaySend s
may_send_all s list first end start stop bufs is can are low few run own = record {
  mesh = is;
  few = omega (arith, are.within);
  parts = may_send s list first end start stop bufs can are low few run own;
}

-- one block more has sent its letters of the list's
module _ (kind : LetterKind) (w : CycleMesh) (stage : ℕ) (bufs : List FieldBuf) where
  abbrev pub with_own : Exchange → Letter
  with_own x = letter_with kind w stage (of_block bufs x.from) x

  pub block_more : (list first end start stop block : ℕ) (sent after all : List Letter) → AreOwned w list first end → first ≤ block → block < end → AreOfBlock bufs block start stop →
      sent ++ map with_own (rest_of kind w list block) ≡ all →
      after ≡ sent ++ map (letter_with kind w stage (slice_range bufs start stop)) (letters_of w.mesh (receivers_of kind) block (leaf_at w block)) →
      after ++ map with_own (rest_of kind w list (block + 1)) ≡ all
  block_more list first end start stop block sent after all are low few run before more =
      let mine : List Exchange = letters_of w.mesh (receivers_of kind) block (leaf_at w block) in
      let rest : List Exchange = rest_of kind w list (block + 1) in
      let same : map (letter_with kind w stage (slice_range bufs start stop)) mine ≡ map with_own mine =
      map_leaf kind w block (leaf_at w block) (letter_with kind w stage (slice_range bufs start stop)) with_own
      (λ x from. ap (λ (v : List FieldBuf). letter_with kind w stage v x) (own_is bufs block start stop run ∙ ap (of_block bufs) (sym from))) in
      ap (λ (v : List Letter). v ++ map with_own rest) (more ∙ ap (λ (v : List Letter). sent ++ v) same)
      ∙ append_assoc sent (map with_own mine) (map with_own rest)
      ∙ ap (λ (v : List Letter). sent ++ v) (sym (map-append with_own mine rest))
      ∙ ap (λ (v : List Exchange). sent ++ map with_own v) (sym (rest_goes_on kind w list first end block are low few))
      ∙ before

  pub none_sent : (list first end : ℕ) (sent : List Letter) → AreOwned w list first end → sent ≡ [] → sent ++ map with_own (rest_of kind w list first) ≡ letters_sent kind w list stage bufs
  none_sent list first end sent are none =
      ap (λ (v : List Letter). v ++ map with_own (rest_of kind w list first)) none ∙ ap (map with_own) (sym (rest_starts kind w list first end are))

  pub all_sent : (list first end block : ℕ) (sent all : List Letter) → AreOwned w list first end → block ≡ end → sent ++ map with_own (rest_of kind w list block) ≡ all → sent ≡ all
  all_sent list first end block sent all are last is =
      sym (append_nil sent)
      ∙ ap (λ (v : List Exchange). sent ++ map with_own v) (sym (ap (rest_of kind w list) last ∙ rest_stops kind w list first end are))
      ∙ is
