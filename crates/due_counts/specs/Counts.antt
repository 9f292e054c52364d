-- For the code: counts of letters by list.
use Rattle.std.specs.Prelude.{◌≡◌, ◌==◌, ℕ, ◌+◌, ◌<◌, ◌≤◌, ◌^◌, List, ◌++◌, All, count_by, length, slice_index}
use Rattle.due_counts.specs.declared.counts.Counts.{Counts}

-- counts of letters to some lists
pub record AreCounts (lists : List ℕ) (c : Counts) : Type 0 where
  pub each : (i : ℕ) → i < length c.each.items → slice_index c.each.items i ≡ count_by (λ (k : ℕ). k == i) lists
  pub all : c.all ≡ length lists

-- no list has more than there are in all
abbrev pub AreBounded : Counts → Type 0
AreBounded c = (i : ℕ) → slice_index c.each.items i ≤ c.all

-- letters to some lists can be counted besides, and so many to any of so many lists
pub record CanAdd (lists : List ℕ) (c : Counts) : Type 0 where
  pub lists_are : All (λ k. k < length c.each.items) lists
  pub bounded : AreBounded c
  pub few : c.all + length lists < 2 ^ 32

pub record CanTake (lists more : ℕ) (c : Counts) : Type 0 where
  pub long : length c.each.items ≡ lists
  pub bounded : AreBounded c
  pub few : c.all + more < 2 ^ 32

-- they were counted
pub record AddsAll (lists : List ℕ) (old new : Counts) : Type 0 where
  pub long : length new.each.items ≡ length old.each.items
  pub bounded : AreBounded new
  pub all : new.all ≡ old.all + length lists
  pub counted : (before : List ℕ) → AreCounts before old → AreCounts (before ++ lists) new
