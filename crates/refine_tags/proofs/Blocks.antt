-- What is measured in the cells of a block.
use Rattle.std.proofs.Common.{◌≡◌, ℕ, ◌/◌, ◌%◌, ◌<◌, ◌≤◌, List, [], ◌∷◌, slice_index, ap, subst, ◌∙◌, arith}
use Rattle.mesh_settings.specs.declared.words.Method.{Method}
use Rattle.block_layout.specs.declared.layout.Layout.{Layout}
use Rattle.block_layout.specs.Indices.{IsWithin, count_of, index_of, number_of}
use Rattle.block_layout.proofs.Boxes.{index_below, number_bound, number_index}
use Rattle.refine_tags.specs.Measures.{greatest_in, measured_at}
use Rattle.refine_tags.proofs.Greatest.{greatest_above, greatest_least}

three_same : (a b c x y z : ℕ) → a ≡ x → b ≡ y → c ≡ z → a ∷ b ∷ c ∷ [] ≡ x ∷ y ∷ z ∷ []
three_same a b c x y z p q r = ap (λ v. v ∷ b ∷ c ∷ []) p ∙ ap (λ v. x ∷ v ∷ c ∷ []) q ∙ ap (λ v. x ∷ y ∷ v ∷ []) r

-- the block's greatest is as great as each cell's
pub cell_within : (method : Method) (l : Layout) (total : List ℕ → ℕ) (x row plane : ℕ) → x < slice_index l.cells 0 → row < slice_index l.cells 1 → plane < slice_index l.cells 2 →
    measured_at method l total (x ∷ row ∷ plane ∷ []) ≤ greatest_in method l total
cell_within method l total x row plane a b d =
    let n : List ℕ = l.cells in
    let i : List ℕ = x ∷ row ∷ plane ∷ [] in
    let w : IsWithin n i = record { along1 = a; along2 = b; along3 = d } in
    let k : ℕ = number_of n i in
    let e = number_index n i w in
    let same : index_of n k ≡ i = three_same (k % slice_index n 0) (k / slice_index n 0 % slice_index n 1) (k / slice_index n 0 / slice_index n 1) x row plane e.along1 e.along2 e.along3 in
    subst (λ (v : List ℕ). measured_at method l total v ≤ greatest_in method l total) same (greatest_above (count_of n) (λ k. measured_at method l total (index_of n k)) k (number_bound n i w))

-- a number that is no greater, and as great as each cell's
pub greatest_is : (method : Method) (l : Layout) (total : List ℕ → ℕ) (best : ℕ) → best ≤ greatest_in method l total →
    ((x row plane : ℕ) → x < slice_index l.cells 0 → row < slice_index l.cells 1 → plane < slice_index l.cells 2 → measured_at method l total (x ∷ row ∷ plane ∷ []) ≤ best) → best ≡ greatest_in method l total
greatest_is method l total best within each =
    let least = greatest_least (count_of l.cells) (λ k. measured_at method l total (index_of l.cells k)) best (λ k small. let w = index_below l.cells k small in each _ _ _ w.along1 w.along2 w.along3) in
    omega arith
