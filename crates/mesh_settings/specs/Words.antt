-- The words that keys are set to.
use Rattle.std.specs.Prelude.{[], ◌∷◌, Option, codes}
use Rattle.input_file.specs.Texts.{Text}
use Rattle.deck_values.specs.BlockReader.{named}
use Rattle.mesh_settings.specs.declared.words.Mode.{Mode}
use Rattle.mesh_settings.specs.declared.words.Mode.TheVariants.{Plain, Fixed, Adaptive}
use Rattle.mesh_settings.specs.declared.words.FaceKind.{FaceKind}
use Rattle.mesh_settings.specs.declared.words.FaceKind.TheVariants.{Periodic, Outflow, Reflecting, Inflow}
use Rattle.mesh_settings.specs.declared.words.Method.{Method}
use Rattle.mesh_settings.specs.declared.words.Method.TheVariants.{Peak, Jump}

abbrev pub mode_named : Text → Option Mode
mode_named = named ((codes "none", Plain) ∷ (codes "static", Fixed) ∷ (codes "adaptive", Adaptive) ∷ [])

abbrev pub face_kind_named : Text → Option FaceKind
face_kind_named =
    named ((codes "periodic", Periodic) ∷ (codes "outflow", Outflow) ∷ (codes "reflecting", Reflecting) ∷ (codes "inflow", Inflow) ∷ [])

abbrev pub method_named : Text → Option Method
method_named = named ((codes "peak", Peak) ∷ (codes "jump", Jump) ∷ [])
