-- Each face has its own number.
use Rattle.std.proofs.Common.{◌≡◌, ℕ, zero, suc, ◌+◌, ◌<◌, ◌≤◌, Bool, cond, ap, sym, subst, ◌∙◌, ◌%◌, ◌/◌, arith, List, slice_index, ⊎_elim}
use Rattle.std.proofs.lemmas.Bool.{lt-ltb, cases_lt}
use Rattle.block_layout.specs.declared.layout.Layout.{Layout}
use Rattle.block_layout.specs.Sizes.{IsLayout}
use Rattle.block_layout.specs.Indices.{IsWithin, count_of, number_of}
use Rattle.block_layout.specs.Faces.{face_count, face_extents, face_number, faces_along, first_face}
use Rattle.block_layout.specs.Laws.{IsSame, FacesAreNumbered}
use Rattle.block_layout.proofs.Boxes.{number_bound, number_index}

-- the faces of an axis in use
pub faces_in_use : (l : Layout) (axis : ℕ) → axis < l.dims → faces_along l axis ≡ count_of (face_extents l axis)
faces_in_use l axis h = ap (λ (b : Bool). cond b (count_of (face_extents l axis)) 0) (lt-ltb axis l.dims h)

-- the faces of an axis come before those of the next
pub before_next : (l : Layout) (axis : ℕ) (i : List ℕ) → axis < l.dims → IsWithin (face_extents l axis) i → face_number l axis i < first_face l axis + faces_along l axis
before_next l axis i u w = omega (arith, faces_in_use l axis u, number_bound (face_extents l axis) i w)

-- the faces of an axis come before those of each later one
pub rising : (l : Layout) (a b : ℕ) → a < b → first_face l a + faces_along l a ≤ first_face l b
rising l a zero h = absurd (omega arith)
rising l a (suc b) h = ⊎_elim (λ (c : a < b). let r = rising l a b c in omega arith)
    (λ (c : b ≤ a). let e : a ≡ b = omega arith in subst (λ (v : ℕ). first_face l a + faces_along l a ≤ first_face l v + faces_along l v) e (omega arith)) (cases_lt a b)

pub whole_count : (l : Layout) → first_face l 3 ≡ face_count l
whole_count l = omega arith

pub number_within : (l : Layout) (axis : ℕ) (i : List ℕ) → IsLayout l.dims l.cells → axis < l.dims → IsWithin (face_extents l axis) i → face_number l axis i < face_count l
number_within l axis i s u w = omega (arith, before_next l axis i u w, rising l axis 3 (omega (arith, s.most)), whole_count l)

-- faces of a lower axis have lower numbers
pub lower_axis : (l : Layout) (a b : ℕ) (i j : List ℕ) → a < l.dims → IsWithin (face_extents l a) i → a < b → face_number l a i < face_number l b j
lower_axis l a b i j u w h = omega (arith, before_next l a i u w, rising l a b h)

pub one_axis : (l : Layout) (a b : ℕ) (i j : List ℕ) → IsLayout l.dims l.cells → a < l.dims → b < l.dims → IsWithin (face_extents l a) i → IsWithin (face_extents l b) j → face_number l a i ≡ face_number l b j → a ≡ b
one_axis l a b i j s u v w z e = ⊎_elim (λ (c : a < b). absurd (omega (arith, lower_axis l a b i j u w c)))
    (λ (c : b ≤ a). ⊎_elim (λ (d : b < a). absurd (omega (arith, lower_axis l b a j i v z d))) (λ (d : a ≤ b). omega arith) (cases_lt b a)) (cases_lt a b)

pub one_index : (l : Layout) (a : ℕ) (i j : List ℕ) → IsLayout l.dims l.cells → a < l.dims → IsWithin (face_extents l a) i → IsWithin (face_extents l a) j → face_number l a i ≡ face_number l a j → IsSame i j
one_index l a i j s u w z e =
    let n = face_extents l a in
    let f : number_of n i ≡ number_of n j = omega arith in
    let x = number_index n i w in
    let y = number_index n j z in
    record {
      along1 = sym x.along1 ∙ (ap (λ v. v % slice_index n 0) f ∙ y.along1);
      along2 = sym x.along2 ∙ (ap (λ v. v / slice_index n 0 % slice_index n 1) f ∙ y.along2);
      along3 = sym x.along3 ∙ (ap (λ v. v / slice_index n 0 / slice_index n 1) f ∙ y.along3);
    }

pub faces_numbered : FacesAreNumbered
faces_numbered = record { bound = number_within; same_axis = one_axis; same_index = one_index }
