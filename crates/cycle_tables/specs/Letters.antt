-- For the code: how letters and tables are stored as values.
use Rattle.std.specs.Prelude.{ℕ, List, Option, refl}
use Rattle.std.specs.Coded.{Coded, code_by, coded×, coded_ℕ, coded_list, coded_option}
use Rattle.cycle_tables.specs.declared.letter.Letter.{Letter}
use Rattle.cycle_tables.specs.declared.list_state.ListState.{ListState}
use Rattle.cycle_tables.specs.Tables.{Protocol}

-- a letter is stored as the tuple of its fields
abbrev pub letter_code : {T : Type 0} → Coded T → Coded (Letter T)
letter_code {T} code =
    code_by
    (ℕ × (ℕ × (ℕ × T)))
    (coded× coded_ℕ (coded× coded_ℕ (coded× coded_ℕ code)))
    (λ l. (l.number, (l.round, (l.to, l.content))))
    (λ p. record { number = p.0; round = p.1.0; to = p.1.1.0; content = p.1.1.1 })
    (λ _. refl)

-- a list's state likewise
abbrev pub state_code : Coded ListState
state_code =
    code_by
    ((ℕ × ℕ) × (ℕ × Option ℕ))
    (coded× (coded× coded_ℕ coded_ℕ) (coded× coded_ℕ (coded_option coded_ℕ)))
    (λ l. ((l.due.ghosts, l.due.fluxes), (l.given, l.out)))
    (λ p. record { due = record { ghosts = p.0.0; fluxes = p.0.1 }; given = p.1.0; out = p.1.1 })
    (λ _. refl)

-- and the protocol
abbrev pub protocol_code : {T : Type 0} → Coded T → Coded (Protocol T)
protocol_code {T} code =
    code_by
    ((ℕ × ℕ) × (List ListState × (List (Option (Letter T)) × List (List (List (Letter T))))))
    (coded× (coded× coded_ℕ coded_ℕ) (coded× (coded_list state_code)
    (coded× (coded_list (coded_option (letter_code code))) (coded_list (coded_list (coded_list (letter_code code)))))))
    (λ v. ((v.rounds, v.tail), (v.lists, (v.posts, v.mail))))
    (λ p. record { rounds = p.0.0; tail = p.0.1; lists = p.1.0; posts = p.1.1.0; mail = p.1.1.1 })
    (λ _. refl)

-- a mailbox: the letters in it, and how many it has room for
pub record Box (T : Type 0) : Type 0 where
  pub letters : List (Letter T)
  pub room : ℕ

abbrev pub box_code : {T : Type 0} → Coded T → Coded (Box T)
box_code {T} code =
    code_by (List (Letter T) × ℕ) (coded× (coded_list (letter_code code)) coded_ℕ)
    (λ b. (b.letters, b.room)) (λ p. record { letters = p.0; room = p.1 }) (λ _. refl)

-- the letters that were sent, by number, while they are on the wire, and how many more there is room for
pub record Sent (T : Type 0) : Type 0 where
  pub posts : List (Option (Letter T))
  pub room : ℕ

abbrev pub sent_code : {T : Type 0} → Coded T → Coded (Sent T)
sent_code {T} code =
    code_by (List (Option (Letter T)) × ℕ) (coded× (coded_list (coded_option (letter_code code))) coded_ℕ)
    (λ b. (b.posts, b.room)) (λ p. record { posts = p.0; room = p.1 }) (λ _. refl)
