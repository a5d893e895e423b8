-- A list of fault models.
use Rattle.std.specs.Prelude.{ℕ, Bool, true, false, if◌then◌else◌, List, [], ◌∷◌, codes, Option, Some, None}
use Rattle.std.specs.Str.{bytes_eq}
use Rattle.texts.specs.Parts.{parts}
use Rattle.sweep_plans.specs.declared.models.FaultModel.{FaultModel}
use Rattle.sweep_plans.specs.declared.models.FaultModel.TheVariants.{Skip, Registers, Pc, Words, Memory}
use Rattle.sweep_plans.specs.declared.models.FaultModel.TheVariants.{Zero, Ones}
use Rattle.sweep_plans.specs.declared.plan.FaultModels.{FaultModels}

-- the model of a name
unfoldable pub model_of : List ℕ → Option FaultModel
model_of name =
    if bytes_eq name (codes "skip") then Some Skip
    else if bytes_eq name (codes "registers") then Some Registers
    else if bytes_eq name (codes "pc") then Some Pc
    else if bytes_eq name (codes "words") then Some Words
    else if bytes_eq name (codes "memory") then Some Memory
    else if bytes_eq name (codes "zero") then Some Zero
    else if bytes_eq name (codes "ones") then Some Ones
    else None

-- no models
abbrev pub no_models : FaultModels
no_models =
    record {
      skip = false;
      registers = false;
      pc = false;
      words = false;
      memory = false;
      zero = false;
      ones = false;
    }

-- is a model one of these?
abbrev pub has : FaultModels → FaultModel → Bool
has models Skip = models.skip
has models Registers = models.registers
has models Pc = models.pc
has models Words = models.words
has models Memory = models.memory
has models Zero = models.zero
has models Ones = models.ones

-- these with another one
abbrev pub with_model : FaultModels → FaultModel → FaultModels
with_model models Skip = record models { skip = true }
with_model models Registers = record models { registers = true }
with_model models Pc = record models { pc = true }
with_model models Words = record models { words = true }
with_model models Memory = record models { memory = true }
with_model models Zero = record models { zero = true }
with_model models Ones = record models { ones = true }

-- and if it is one that isn't among them
abbrev pub joined : FaultModels → Option FaultModel → Option FaultModels
joined models (Some model) = if has models model then None else Some (with_model models model)
joined models None = None

-- the models of some names, added to others
unfoldable pub models_from : Option FaultModels → List (List ℕ) → Option FaultModels
models_from None names = None
models_from (Some models) [] = Some models
models_from (Some models) (name ∷ names) = models_from (joined models (model_of name)) names

-- fault models between commas, none twice
abbrev pub models_of : List ℕ → Option FaultModels
models_of text = models_from (Some no_models) (parts 44 text)
