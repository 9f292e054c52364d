-- The blocks of a list: a run of blocks.
use Rattle.std.proofs.Common.{◌≡◌, ◌==◌, inl, inr, Option, Some, None, ℕ, ◌+◌, ◌-◌, ◌*◌, ◌/◌, ◌%◌, ◌<◌, ◌≤◌, ◌&&◌, nat_le, nat_lt, min, refl, arith, ap, subst, sym, ◌∙◌}
use Rattle.std.specs.Option.{ForSome, unwrap_or}
use Rattle.std.proofs.Math.Nat.{div-add-mod', mul-le-mul_right}
use Rattle.std.proofs.lemmas.Bool.{cases_lt}
use Rattle.std.proofs.lemmas.Bool.Decides.{nat_tests}
use Rattle.mesh_rules.specs.Due.{partition_size}
use Rattle.cycle_kernels.specs.Blocks.{CycleMesh, block_count, owner_of}
use Rattle.cycle_kernels.specs.Laws.{IsCycleMesh}

equal_tests : (q list b first end : ℕ) → q ≡ list → first ≤ b → b < end → (q == list) ≡ (nat_le first b && nat_lt b end)
equal_tests q list b first end e low few = grind (arith, nat_tests)

below_tests : (q list b first end : ℕ) → (q ≡ list → ⊥) → b < first → (q == list) ≡ (nat_le first b && nat_lt b end)
below_tests q list b first end e low = grind (arith, nat_tests, e)

above_tests : (q list b first end : ℕ) → (q ≡ list → ⊥) → end ≤ b → (q == list) ≡ (nat_le first b && nat_lt b end)
above_tests q list b first end e low = grind (arith, nat_tests, e)

next : (q size : ℕ) → (q + 1) * size ≡ q * size + size
next q size = grind arith

-- the blocks of a partition of so many are those from a multiple of their number on
pub run_of : (b size list count first end : ℕ) → b < count → 1 ≤ size → first ≡ min (list * size) count → end ≡ min (list * size + size) count → (b / size == list) ≡ (nat_le first b && nat_lt b end)
run_of b size list count first end few some first_is end_is =
    let q = b / size in
    let split : q * size + b % size ≡ b = div-add-mod' b size in
    let small : b % size < size = omega arith in
    elim (cases_lt q list) [
      | inl less ↦
          let h : (q + 1) * size ≤ list * size = mul-le-mul_right size (omega arith) in
          let e = next q size in
          below_tests q list b first end (λ same. omega arith) (omega arith)
      | inr more ↦ elim (cases_lt list q) [
        | inl less ↦
            let h : (list + 1) * size ≤ q * size = mul-le-mul_right size (omega arith) in
            let e = next list size in
            above_tests q list b first end (λ same. omega arith) (omega arith)
        | inr less ↦
            let same : q ≡ list = omega arith in
            let e : q * size ≡ list * size = ap (λ v. v * size) same in
            equal_tests q list b first end same (omega arith) (omega arith)
      ]
    ]

some_size : (o : Option ℕ) (n : ℕ) → ForSome o (λ k. 1 ≤ k) → 1 ≤ n → 1 ≤ partition_size o n
some_size None n packs some = some
some_size (Some k) n packs some = packs k refl

pub default_size : (o : Option ℕ) (n : ℕ) → unwrap_or o n ≡ partition_size o n
default_size None n = refl
default_size (Some k) n = refl

-- of a mesh's blocks those of a list
pub owned_run : (w : CycleMesh) (b list size first end : ℕ) → IsCycleMesh w → b < block_count w → size ≡ partition_size w.settings.pack_size (block_count w) →
    first ≡ min (list * size) (block_count w) → end ≡ min (list * size + size) (block_count w) → (owner_of w b == list) ≡ (nat_le first b && nat_lt b end)
owned_run w b list size first end is few size_is first_is end_is =
    let here : min b (block_count w - 1) ≡ b = omega arith in
    let some : 1 ≤ size = subst (λ n. 1 ≤ n) (sym size_is) (some_size w.settings.pack_size (block_count w) is.packs (omega arith)) in
    ap (λ n. n / partition_size w.settings.pack_size (block_count w) == list) here
    ∙ ap (λ n. b / n == list) (sym size_is)
    ∙ run_of b size list (block_count w) first end few some first_is end_is
