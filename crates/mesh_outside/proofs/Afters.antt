-- One call on a depot after another.
use Rattle.std.proofs.Common.{◌≡◌, ℕ, ◌≤◌, ◌⊎◌, inl, inr, Bool, true, List, IsTrue, refl, sym, ◌∙◌, subst, arith}
use Rattle.mesh_outside.specs.Depot.{DepotSeen, CountsReads, AfterReads, CountsWrites, AfterWrites}
use Rattle.mesh_outside.specs.Fault.{Counts, Rose, RoseByOne}

-- counted from earlier on
counts_then : (f g h : Type 0) (a b c : ℕ) → Counts f a b → (f → ⊥) → Counts g b c → (g → h) → (h → g) → Counts h a c
counts_then f g h a b c (inl p) fine q to from = absurd (fine p.0)
counts_then f g h a b c (inr p) fine (inl q) to from = let P : ℕ → Type 0 = λ n. RoseByOne n c in inl (to q.0, subst P p.1 q.1)
counts_then f g h a b c (inr p) fine (inr q) to from = inr (λ x. q.0 (from x), q.1 ∙ p.1)

rose_since : (a b c : ℕ) → a ≤ b → Rose b c → Rose a c
rose_since a b c later rose = omega arith

-- another name's count
other_then : (f g h : Type 0) (a b c : ℕ) → (b ≡ a) ⊎ f → (f → ⊥) → (c ≡ b) ⊎ g → (g → h) → (c ≡ a) ⊎ h
other_then f g h a b c (inl p) fine (inl q) to = inl (q ∙ p)
other_then f g h a b c (inl p) fine (inr q) to = inr (to q)
other_then f g h a b c (inr p) fine q to = absurd (fine p)

-- reads after reads that did not fail
pub reads_then : (name : List ℕ) (f g h : Type 0) (a b c : DepotSeen) → AfterReads name f a b → (f → ⊥) → AfterReads name g b c → (g → h) → (h → g) → AfterReads name h a c
reads_then name f g h a b c p fine q to from = record {
  inputs = q.inputs ∙ p.inputs;
  written = q.written ∙ p.written;
  is_exact = q.is_exact ∙ p.is_exact;
  reads_later = λ other. omega (arith, p.reads_later other, q.reads_later other);
  writes_later = omega (arith, p.writes_later, q.writes_later);
  cause = λ x. rose_since _ _ _ (p.reads_later name) (q.cause (from x));
  exact = λ e.
      let d = p.exact e in
      let P : Bool → Type 0 = IsTrue in
      let k = q.exact (subst P (sym p.is_exact) e) in
      record {
        reads = counts_then f g h _ _ _ d.reads fine k.reads to from;
        others = λ other. other_then f g h _ _ _ (d.others other) fine (k.others other) to;
        writes = k.writes ∙ d.writes;
      };
}

-- no reads
pub no_reads : (name : List ℕ) (f : Type 0) (a : DepotSeen) → (f → ⊥) → AfterReads name f a a
no_reads name f a fine = record {
  inputs = refl;
  written = refl;
  is_exact = refl;
  reads_later = λ other. omega arith;
  writes_later = omega arith;
  cause = λ x. absurd (fine x);
  exact = λ e. record { reads = inr (fine, refl); others = λ other. inl refl; writes = refl };
}

-- writes after writes that did not fail
pub writes_then : (f g h : Type 0) (a b c : DepotSeen) → AfterWrites f a b → (f → ⊥) → AfterWrites g b c → (g → h) → (h → g) → AfterWrites h a c
writes_then f g h a b c p fine q to from = record {
  inputs = q.inputs ∙ p.inputs;
  is_exact = q.is_exact ∙ p.is_exact;
  reads_later = λ name. omega (arith, p.reads_later name, q.reads_later name);
  writes_later = omega (arith, p.writes_later, q.writes_later);
  cause = λ x. rose_since _ _ _ p.writes_later (q.cause (from x));
  exact = λ e.
      let d = p.exact e in
      let P : Bool → Type 0 = IsTrue in
      let k = q.exact (subst P (sym p.is_exact) e) in
      record {
        reads = λ name. k.reads name ∙ d.reads name;
        writes = counts_then f g h _ _ _ d.writes fine k.writes to from;
      };
}

-- no writes
pub no_writes : (f : Type 0) (a : DepotSeen) → (f → ⊥) → AfterWrites f a a
no_writes f a fine = record {
  inputs = refl;
  is_exact = refl;
  reads_later = λ name. omega arith;
  writes_later = omega arith;
  cause = λ x. absurd (fine x);
  exact = λ e. record { reads = λ name. refl; writes = inr (fine, refl) };
}

-- reads that did not fail, as none that failed
pub reads_on : (name : List ℕ) (f : Type 0) (a b : DepotSeen) → AfterReads name f a b → (f → ⊥) → AfterReads name ⊥ a b
reads_on name f a b p fine = reads_then name f ⊥ ⊥ a b b p fine (no_reads name ⊥ b (λ x. x)) (λ x. x) (λ x. x)

-- writes that did not fail, as none that failed
pub writes_on : (f : Type 0) (a b : DepotSeen) → AfterWrites f a b → (f → ⊥) → AfterWrites ⊥ a b
writes_on f a b p fine = writes_then f ⊥ ⊥ a b b p fine (no_writes ⊥ b (λ x. x)) (λ x. x) (λ x. x)

-- reads that failed where another answer says so
pub reads_as : (name : List ℕ) (f h : Type 0) (a b : DepotSeen) → AfterReads name f a b → (f → h) → (h → f) → AfterReads name h a b
reads_as name f h a b p to from = reads_then name ⊥ f h a a b (no_reads name ⊥ a (λ x. x)) (λ x. x) p to from

-- writes that failed where another answer says so
pub writes_as : (f h : Type 0) (a b : DepotSeen) → AfterWrites f a b → (f → h) → (h → f) → AfterWrites h a b
writes_as f h a b p to from = writes_then ⊥ f h a a b (no_writes ⊥ a (λ x. x)) (λ x. x) p to from
