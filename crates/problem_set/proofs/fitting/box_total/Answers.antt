use Rattle.std.proofs.Common.{◌≡◌, ℕ, ◌*◌, ◌≤◌, ◌^◌, List, arith}
use Rattle.std.specs.Prelude.{slice_index}
use Rattle.mesh_settings.specs.Mesh.{cells_of}
use Rattle.problem_set.specs.Rates.{span}
use Rattle.mesh_settings.specs.MeshPart.{IsPart}
use Rattle.problem_set.proofs.RateLemmas.{box_at_most}
use Rattle.problem_set.proofs.fitting.box_total.Goals as goal

in_mesh : (size lo hi : List ℕ) (a b c amount : ℕ) → IsPart size lo hi → cells_of size ≤ 2 ^ 34 → a ≡ span lo hi 0 → b ≡ span lo hi 1 → c ≡ span lo hi 2 → amount ≤ 4611686018427387903 → a * b * c * amount ≤ 2 ^ 96
in_mesh size lo hi a b c amount part few ea eb ec most =
    box_at_most a b c amount (slice_index size 0) (slice_index size 1) (slice_index size 2) (omega (arith, ea, part.along1.within)) (omega (arith, eb, part.along2.within)) (omega (arith, ec, part.along3.within)) few most

pub overflow_mul-result : goal.overflow_mul-result
overflow_mul-result c =
    omega (arith, in_mesh c.args.size c.args.start.now.lo c.args.start.now.hi c.span.result c.span-2.result c.span-3.result c.from.result c.requires.sound.part c.requires.few c.span.ensures.value c.span-2.ensures.value c.span-3.ensures.value (omega (arith, c.from.ensures, c.requires.sound.amount)))

pub returns-clause-most : goal.returns-clause-most
returns-clause-most c =
    in_mesh c.args.size c.args.start.now.lo c.args.start.now.hi c.span.result c.span-2.result c.span-3.result c.from.result c.requires.sound.part c.requires.few c.span.ensures.value c.span-2.ensures.value c.span-3.ensures.value (omega (arith, c.from.ensures, c.requires.sound.amount))
