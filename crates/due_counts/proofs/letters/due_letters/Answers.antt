use Rattle.std.proofs.Common.{◌≡◌, ◌∙◌, ◌+◌, ◌-◌, ◌/◌, ℕ, List, length, ap, refl, subst}
use Rattle.std.specs.Prelude.{slice_index}
use Rattle.block_tree.specs.Blocks.{leaves}
use Rattle.mesh_rules.specs.Sums.{table}
use Rattle.cycle_tables.specs.declared.list_state.Due.{Due}
use Rattle.due_counts.proofs.Finals.{due_is}
use Rattle.due_counts.proofs.letters.due_letters.Goals as goal

pub returns : goal.returns
returns c =
    let count : (c.len.result + c.args.size - 1) / c.args.size ≡ (length (leaves c.args.tree.now) + c.args.size - 1) / c.args.size =
    ap (λ (n : ℕ). (n + c.args.size - 1) / c.args.size) c.len.ensures.count in
    let ghosts : List ℕ = c.count_all.new.ghosts.each.items in
    let made : List Due = c.in_ok-lists.lists.items in
    let a : made ≡ table (length ghosts) (λ i. record { ghosts = slice_index ghosts i; fluxes = slice_index c.as_slice-2.result.now i }) =
    subst (λ (v : List ℕ). made ≡ table (length v) (λ i. record { ghosts = slice_index v i; fluxes = slice_index c.as_slice-2.result.now i })) c.as_slice.ensures.value c.in_ok-lists.ensures in
    λ m on. due_is c.args.tree.now c.args.size m c.in_ok-ghosts.ghosts c.count_all.new.ghosts c.in_ok-fluxes.fluxes c.count_all.new.fluxes _ on
    c.in_ok-ghosts.ensures.none c.in_ok-fluxes.ensures.none (c.in_ok-ghosts.ensures.lists ∙ count) (c.in_ok-fluxes.ensures.lists ∙ count) c.count_all.ensures.ghosts c.count_all.ensures.fluxes
    (subst (λ (v : List ℕ). made ≡ table (length ghosts) (λ i. record { ghosts = slice_index ghosts i; fluxes = slice_index v i })) c.as_slice-2.ensures.value a)
    refl refl
