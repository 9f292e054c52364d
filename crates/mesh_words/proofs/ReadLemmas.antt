-- What clap's promise for the command says of the words.
use Rattle.std.proofs.Common.{◌≡◌, ◌≢◌, true, List, [], ◌∷◌, ◌⊎◌, inl, inr, refl, ap, sym, ◌∙◌, subst}
use Rattle.std.specs.Prelude.{Result, Err, if◌then◌else◌}
use Rattle.clap.specs.Words.{App, Row, Text, Kinds, HasKind, IsAmong, kind_of, is_simple, is_simple_and_free, matches_of, fault_of, takes}
use Rattle.clap.specs.declared.error.Error.{Error}
use Rattle.clap.specs.declared.error.kind.ErrorKind.{ErrorKind}
use Rattle.clap.specs.declared.error.kind.ErrorKind.TheVariants.{OutOfMemory}
use Rattle.mesh_words.specs.Command.{command, names_none}
use Rattle.mesh_words.specs.Arguments.{Arguments, arguments_of_rows, arguments_of}
use Rattle.mesh_words.specs.declared.fault.UsageFault.{UsageFault}
use Rattle.mesh_words.specs.declared.fault.UsageFault.TheVariants.{NoMemory, NotTheCommand}

-- the command is one for which clap makes its promise
command-simple : is_simple_and_free command ≡ true
unfolding command
command-simple = refl

command-matches : is_simple command ≡ true
unfolding command
command-matches = refl

-- what is answered where clap names these kinds of fault
told : Kinds → Result Arguments UsageFault → Result Arguments UsageFault
told kinds taken = if names_none kinds then taken else Err NotTheCommand

told-none : (kinds : Kinds) (taken : Result Arguments UsageFault) → kinds ≡ [] → told kinds taken ≡ taken
unfolding told
told-none kinds taken none = ap (λ (k : Kinds). if names_none k then taken else Err NotTheCommand) none

told-some : (kinds : Kinds) (taken : Result Arguments UsageFault) (k : ErrorKind) → IsAmong k kinds → told kinds taken ≡ Err NotTheCommand
unfolding told
told-some [] taken k among = absurd among
told-some (x ∷ kinds) taken k among = refl

arguments_of-told : (words : List Text) → arguments_of words ≡ told (fault_of command words) (arguments_of_rows (matches_of command words))
unfolding told
arguments_of-told words = refl

-- words that clap takes say what its rows say
pub words-taken : (a : App) (words : List Text) (rows : List Row) (Q : App → Type 0) → a ≡ command → (is_simple_and_free a ≡ true → fault_of a words ≡ []) → (is_simple a ≡ true → (rows ≡ matches_of a words) × Q a) → arguments_of words ≡ arguments_of_rows rows
words-taken a words rows Q is faults matches =
    let none : fault_of command words ≡ [] = subst (λ (b : App). (is_simple_and_free b ≡ true → fault_of b words ≡ [])) is faults command-simple in
    let same : rows ≡ matches_of command words = (subst (λ (b : App). (is_simple b ≡ true → (rows ≡ matches_of b words) × Q b)) is matches command-matches).0 in
    arguments_of-told words ∙ told-none (fault_of command words) (arguments_of_rows (matches_of command words)) none ∙ ap arguments_of_rows (sym same)

refused-by : (words : List Text) (kind : ErrorKind) (fault : UsageFault) → (kind ≡ OutOfMemory) ⊎ IsAmong kind (fault_of command words) → ((kind ≡ OutOfMemory) × (fault ≡ NoMemory)) ⊎ ((kind ≢ OutOfMemory) × (fault ≡ NotTheCommand)) → (fault ≡ NoMemory) ⊎ (arguments_of words ≡ Err fault)
refused-by words kind fault h (inl none) = inl none.1
refused-by words kind fault (inl none) (inr other) = absurd (other.0 none)
refused-by words kind fault (inr among) (inr other) = inr (arguments_of-told words ∙ told-some (fault_of command words) (arguments_of_rows (matches_of command words)) kind among ∙ ap Err (sym other.1))

-- words that clap refuses for another cause than memory are refused
pub words-refused : (a : App) (words : List Text) (e : Error) (fault : UsageFault) → a ≡ command → (is_simple_and_free a ≡ true → HasKind (fault_of a words) e) → ((kind_of e ≡ OutOfMemory) × (fault ≡ NoMemory)) ⊎ ((kind_of e ≢ OutOfMemory) × (fault ≡ NotTheCommand)) → (fault ≡ NoMemory) ⊎ (arguments_of words ≡ Err fault)
words-refused a words e fault is kinds cases =
    refused-by words (kind_of e) fault (subst (λ (b : App). (is_simple_and_free b ≡ true → HasKind (fault_of b words) e)) is kinds command-simple) cases

taken-by : (kind : ErrorKind) (fault : UsageFault) → kind ≡ OutOfMemory → ((kind ≡ OutOfMemory) × (fault ≡ NoMemory)) ⊎ ((kind ≢ OutOfMemory) × (fault ≡ NotTheCommand)) → fault ≡ NotTheCommand → ⊥
taken-by kind fault none (inl h) is = absurd (cc)
taken-by kind fault none (inr h) is = h.0 none

-- words that clap takes are refused for want of memory alone
pub taken-refused : (a : App) (words : List Text) (e : Error) (fault : UsageFault) → a ≡ command → (takes a words ≡ true → kind_of e ≡ OutOfMemory) → ((kind_of e ≡ OutOfMemory) × (fault ≡ NoMemory)) ⊎ ((kind_of e ≢ OutOfMemory) × (fault ≡ NotTheCommand)) → takes command words ≡ true → fault ≡ NotTheCommand → ⊥
taken-refused a words e fault is passes cases taken =
    taken-by (kind_of e) fault (passes (subst (λ (b : App). takes b words ≡ true) (sym is) taken)) cases
