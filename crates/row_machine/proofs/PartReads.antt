-- The part that a task reads is what the protocol says.
use Rattle.std.proofs.Common.{◌≡◌, ◌==◌, ℕ, Bool, true, false, cond, ◌&&◌, Option, Some, None, List, [], ◌∷◌, map, find, length, get_or, drop, ◌+◌, ◌<◌, ◌≤◌, refl, ap, sym, ◌∙◌}
use Rattle.std.proofs.lemmas.List.{drop_all, drop_more}
use Rattle.cycle_rounds.specs.Events.{Letter, content_of, is_of}
use Rattle.sparse_rounds.specs.Sparse.{plan_of}
use Rattle.sparse_rounds.specs.Row.{RowOf, Side, row_kernels, same_bool}
use Rattle.row_machine.specs.declared.mail.Part.{Part}
use Rattle.row_machine.specs.Mail.{is_wanted, letter_of, total_of}

found_by : (b : Bool) (p : Part) (n : ℕ) (o : Option (Letter Side ℕ)) → n ≡ content_of 0 o → cond b p.total n ≡ content_of 0 (cond b (Some (letter_of p)) o)
found_by true p n o h = refl
found_by false p n o h = h

pub total_is : (w : RowOf) (round block : ℕ) (high : Bool) (ps : List Part) → total_of round block high ps ≡ content_of 0 (find (is_of (plan_of (row_kernels w)) round (record { block = block; high = high })) (map letter_of ps))
total_is w round block high [] = refl
total_is w round block high (p ∷ ps) = found_by (is_wanted round block high p) p (total_of round block high ps) (find (is_of (plan_of (row_kernels w)) round (record { block = block; high = high })) (map letter_of ps)) (total_is w round block high ps)

-- the total at an index where the first wanted part stands, and none anywhere
pub total_at : (w : RowOf) (round block : ℕ) (high : Bool) (ps : List Part) (i : ℕ) (d : Part) → i < length ps → is_wanted round block high (get_or ps i d) ≡ true → total_of round block high (drop i ps) ≡ total_of round block high ps →
    (get_or ps i d).total ≡ content_of 0 (find (is_of (plan_of (row_kernels w)) round (record { block = block; high = high })) (map letter_of ps))
total_at w round block high ps i d low wanted h =
    sym (ap (λ (b : Bool). cond b (get_or ps i d).total (total_of round block high (drop (i + 1) ps))) wanted)
    ∙ sym (ap (total_of round block high) (drop_more ps i d low)) ∙ h ∙ total_is w round block high ps

pub total_none : (w : RowOf) (round block : ℕ) (high : Bool) (ps : List Part) (i : ℕ) → length ps ≤ i → total_of round block high (drop i ps) ≡ total_of round block high ps →
    0 ≡ content_of 0 (find (is_of (plan_of (row_kernels w)) round (record { block = block; high = high })) (map letter_of ps))
total_none w round block high ps i past h = sym (ap (total_of round block high) (drop_all i ps past)) ∙ h ∙ total_is w round block high ps
