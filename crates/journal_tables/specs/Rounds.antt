-- Letters on the wire that tell their rounds themselves.
use Rattle.std.specs.Prelude.{◌≡◌, ℕ, ◌/◌, Some, List}
use Rattle.cycle_rounds.specs.Events.{Each}
use Rattle.cycle_tables.specs.declared.letter.Letter.{Letter as Posted}
use Rattle.cycle_tables.specs.declared.letter.Post.{Post}
use Rattle.cycle_tables.specs.Tables.{Protocol, delivered, given, post_of, state_of}

-- what each letter on the wire carries tells its round
abbrev pub HaveRounds : {T : Type 0} → (T → ℕ) → Protocol T → Type 0
HaveRounds {T} round_of v = (k : ℕ) (l : Posted T) → post_of v k ≡ Some l → round_of l.content ≡ l.round

-- letters that are to be posted tell a round
abbrev pub AreOfRound : {T : Type 0} → (T → ℕ) → ℕ → List (Post T) → Type 0
AreOfRound {T} round_of r letters = Each (λ (q : Post T). round_of q.content ≡ r) letters

-- where letters that are sent tell the round of their task, and where one is delivered, those on the wire still do
abbrev pub GivesTellRounds : (T : Type 0) → Type 0
GivesTellRounds T = (round_of : T → ℕ) (v : Protocol T) (i : ℕ) (letters : List (Post T)) → HaveRounds round_of v →
    AreOfRound round_of ((state_of v i).given / 3) letters → HaveRounds round_of (given v i letters)

abbrev pub DeliveriesTellRounds : (T : Type 0) → Type 0
DeliveriesTellRounds T = (round_of : T → ℕ) (v : Protocol T) (k : ℕ) (l : Posted T) → post_of v k ≡ Some l →
    HaveRounds round_of v → HaveRounds round_of (delivered v k)
