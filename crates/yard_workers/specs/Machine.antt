-- What a machine asks of its workers, and tells them: of histories, leases and notes.
use Rattle.std.specs.Prelude.{◌≡◌, ℕ, ◌<◌, List, [], ◌++◌, Option, Some, None}
use Rattle.turn_yard.specs.History.{Entry, entries_of, StartsWith}
use Rattle.yard_workers.specs.declared.machine.Answer.{Answer}
use Rattle.yard_workers.specs.declared.machine.Answer.TheVariants.{Lease, Delivered, NotYet, Done, NoMemory}

-- it held of a front of the history
abbrev pub Was : (List Entry → Type 0) → List Entry → Type 0
Was fact history = (front : List Entry) × StartsWith history front × fact front

-- it held of a front of the history, and the seat has added no entry since
abbrev pub WasSince : ℕ → (List Entry → Type 0) → List Entry → Type 0
WasSince seat fact history = (front later : List Entry) × (history ≡ front ++ later) × (entries_of seat later ≡ []) × fact front

-- the partition of which alone the mark may have risen by the answer
abbrev pub risen : {L : Type 0} → Answer L → Option ℕ
risen (Delivered partition) = Some partition
risen _ = None

-- what an answer says of the history before it and after it: a lease is of this seat, which has just got it, and of one of the partitions; only with a lease or a delivery there may be an entry more
abbrev pub IsAnswer : {L : Type 0} → (List ℕ → List Entry → ℕ → L → Type 0) → (List ℕ → List Entry → Type 0) → (List ℕ → ℕ) → List ℕ → ℕ → List Entry → List Entry → Answer L → Type 0
IsAnswer leased complete parts origin seat before after (Lease lease partition task) = leased origin after seat lease × (partition < parts origin)
IsAnswer leased complete parts origin seat before after (Delivered partition) = partition < parts origin
IsAnswer leased complete parts origin seat before after NotYet = after ≡ before
IsAnswer leased complete parts origin seat before after Done = (after ≡ before) × complete origin after
IsAnswer leased complete parts origin seat before after NoMemory = after ≡ before

-- the lease was got by some seat, in this setting, and the notes were true by then
pub record IsOut {S L N : Type 0} (suits : S → List ℕ → Type 0) (leased : List ℕ → List Entry → ℕ → L → Type 0) (noted : N → List ℕ → List Entry → Type 0) (setting : S) (lease : L) (notes : N) : Type 0 where
  pub origin : List ℕ
  pub history : List Entry
  pub seat : ℕ
  pub suiting : suits setting origin
  pub just_leased : leased origin history seat lease
  pub true_notes : Was (noted notes origin) history

-- notes that were true by the history at which the lease was got still are
abbrev pub IsOutAfter : {S L N : Type 0} → (S → List ℕ → Type 0) → (List ℕ → List Entry → ℕ → L → Type 0) → (N → List ℕ → List Entry → Type 0) → S → L → N → N → Type 0
IsOutAfter suits leased noted setting lease before after = (origin : List ℕ) (history : List Entry) (seat : ℕ) → suits setting origin → leased origin history seat lease → Was (noted before origin) history → Was (noted after origin) history

-- the seat got a lease, of which this was made in a setting that suits, and it has added no entry since
pub record IsReturned {S L F : Type 0} (suits : S → List ℕ → Type 0) (leased : List ℕ → List Entry → ℕ → L → Type 0) (worked : S → L → F → Type 0) (origin : List ℕ) (seat : ℕ) (history : List Entry) (done : F) : Type 0 where
  pub setting : S
  pub lease : L
  pub suiting : suits setting origin
  pub was_leased : WasSince seat (λ front. leased origin front seat lease) history
  pub is_worked : worked setting lease done

-- the notes are true of some history of a machine that has the partition
abbrev pub AreNotes : {N : Type 0} → (List ℕ → ℕ) → (N → List ℕ → List Entry → Type 0) → N → ℕ → Type 0
AreNotes parts noted notes partition = (origin : List ℕ) × (history : List Entry) × noted notes origin history × (partition < parts origin)

-- what the notes were true of, they still are
abbrev pub KeepsNotes : {N : Type 0} → (N → List ℕ → List Entry → Type 0) → N → N → Type 0
KeepsNotes noted before after = (origin : List ℕ) (history : List Entry) → noted before origin history → noted after origin history
