-- What `exec` runs: the scenario that its options and files make, each judged before the next.
use Rattle.std.specs.Prelude.{◌≡◌, ℕ, ◌⊎◌, Bool, true, false, List, [], ◌∷◌, Option, Some, None}
use denote.Ref.{Bor}
use Rattle.command_line.specs.Orders.{input_path, rules_path}
use Rattle.command_line.specs.declared.order.Order.{Order}
use Rattle.command_line.specs.declared.order.ExecArgs.{ExecArgs}
use Rattle.commands.specs.Commands.{number}
use Rattle.commands.specs.declared.edit.Edit.{Edit}
use Rattle.commands.specs.declared.edit.Edit.TheVariants.{Callers, Patch, Redzone, Show, Volume}
use Rattle.exit_status.specs.declared.ends.End.{End}
use Rattle.exit_status.specs.declared.ends.End.TheVariants.{NoMemory, Usage}
use Rattle.exit_status.specs.declared.exec_ends.ExecEnd.{ExecEnd}
use Rattle.exit_status.specs.declared.exec_ends.ExecEnd.TheVariants.{BadPatch, Early, PatchRefused}
use Rattle.guest_elf.specs.declared.image.Image.{Image}
use Rattle.program_files.specs.Files.{Giving, HasInput, HasRules, NoInput, NoRules}
use Rattle.scenario.specs.Edits.{IsTaken, row}
use Rattle.scenario.specs.Scenario.{Scenario, at_step, begun}
use Rattle.suppressions.specs.Rules.{Rule}
use Rattle.suppressions.specs.declared.leak_kinds.LeakKinds.{LeakKinds}
use Rattle.texts.specs.Parts.{parts}

-- ---- edits by options

-- those of the numbers and of the kinds that are listed
abbrev pub option_edits : ExecArgs → LeakKinds → List Edit
option_edits asked kinds =
    Callers asked.callers ∷ Redzone asked.redzone ∷ Volume asked.queue ∷ Show kinds ∷ []

-- a patch `ADDR=WORD`, of two numbers as a session reads them
abbrev pub patch_with : Option ℕ → Option ℕ → Option Edit
patch_with (Some addr) (Some word) = Some (Patch addr word)
patch_with (Some addr) None = None
patch_with None word = None

unfoldable pub patch_of : List (List ℕ) → Option Edit
patch_of (addr ∷ word ∷ []) = patch_with (number addr) (number word)
patch_of _ = None

abbrev pub patch_in : List ℕ → Option Edit
patch_in text = patch_of (parts 61 text)

-- ---- edited scenarios

-- the second is the first after these edits, one after another, none of which is refused
abbrev pub IsEdited : List Edit → Scenario → Scenario → Type 0
IsEdited [] sc done = done ≡ sc
IsEdited (edit ∷ edits) sc done = IsTaken sc edit × IsEdited edits (row sc edit).after done

-- one of them is refused
abbrev pub IsOptionRefused : List Edit → Scenario → Type 0
IsOptionRefused [] sc = ⊥
IsOptionRefused (edit ∷ edits) sc =
    (IsTaken sc edit → ⊥) ⊎ (IsTaken sc edit × IsOptionRefused edits (row sc edit).after)

-- a patch is made
abbrev pub IsPatchedBy : List ℕ → Scenario → Scenario → Type 0
IsPatchedBy text sc done =
    (edit : Edit) × (patch_in text ≡ Some edit) × IsTaken sc edit × (done ≡ (row sc edit).after)

-- it isn't one, or it is refused, which the end says of its list; or memory runs out
abbrev pub IsNoPatch : List ℕ → List ℕ → Scenario → ExecEnd → Type 0
IsNoPatch list text sc (BadPatch named) = (named.now ≡ list) × (patch_in text ≡ None)
IsNoPatch list text sc (PatchRefused named) =
    (named.now ≡ list) × (edit : Edit) × (patch_in text ≡ Some edit) × (IsTaken sc edit → ⊥)
IsNoPatch list text sc (Early NoMemory) = Unit {0}
IsNoPatch list text sc end = ⊥

-- the same of all patches, in their order
abbrev pub IsPatched : List (List ℕ) → Scenario → Scenario → Type 0
IsPatched [] sc done = done ≡ sc
IsPatched (text ∷ texts) sc done = (next : Scenario) × IsPatchedBy text sc next × IsPatched texts next done

-- the first of them that isn't made ends the program
abbrev pub NoPatch : List ℕ → List (List ℕ) → Scenario → ExecEnd → Type 0
NoPatch list [] sc end = ⊥
NoPatch list (text ∷ texts) sc end =
    IsNoPatch list text sc end ⊎ ((next : Scenario) × IsPatchedBy text sc next × NoPatch list texts next end)

-- those of a list with commas, if there is one
abbrev pub IsPatchedIn : Option (Bor (List ℕ)) → Scenario → Scenario → Type 0
IsPatchedIn None sc done = done ≡ sc
IsPatchedIn (Some list) sc done = IsPatched (parts 44 list.now) sc done

abbrev pub NoPatchIn : Option (Bor (List ℕ)) → Scenario → ExecEnd → Type 0
NoPatchIn None sc end = ⊥
NoPatchIn (Some list) sc end = NoPatch list.now (parts 44 list.now) sc end

-- marks and input stay
abbrev pub KeepsRun : Scenario → Scenario → Type 0
KeepsRun old new = (new.marks ≡ old.marks) × (new.setup.input ≡ old.setup.input)

-- an edit is made, or it is refused
abbrev pub MakesOr : Bool → Edit → Scenario → Scenario → Type 0
MakesOr true edit old new = IsTaken old edit × (new ≡ (row old edit).after)
MakesOr false edit old new = IsTaken old edit → ⊥

-- ---- the scenario

-- with suppressions and an input: the options' edits, then the patches
abbrev pub MakesFrom : ExecArgs → LeakKinds → Scenario → Scenario → Type 0
MakesFrom asked kinds sc done =
    (between : Scenario) × IsEdited (option_edits asked kinds) (at_step sc asked.step) between
    × IsPatchedIn asked.patches between done

abbrev pub NotFrom : ExecArgs → LeakKinds → Scenario → ExecEnd → Type 0
NotFrom asked kinds sc end =
    (IsOptionRefused (option_edits asked kinds) (at_step sc asked.step) × (end ≡ Early Usage))
    ⊎ ((between : Scenario) × IsEdited (option_edits asked kinds) (at_step sc asked.step) between
    × NoPatchIn asked.patches between end)

-- of a program: its suppressions are read, then its input, then it is edited
abbrev pub Makes : Giving → Order → ExecArgs → LeakKinds → Image → Scenario → Type 0
Makes gives order asked kinds image done =
    (list : List Rule) × (input : List ℕ) × HasRules gives (rules_path order) list
    × HasInput gives (input_path order) input
    × MakesFrom asked kinds (begun image input list) done

abbrev pub MakesNone : Giving → Order → ExecArgs → LeakKinds → Image → ExecEnd → Type 0
MakesNone gives order asked kinds image end =
    (end ≡ Early NoMemory)
    ⊎ ((why : End) × (end ≡ Early why) × NoRules gives (rules_path order) why)
    ⊎ ((list : List Rule) × HasRules gives (rules_path order) list
    × (((why : End) × (end ≡ Early why) × NoInput gives (input_path order) why)
    ⊎ ((input : List ℕ) × HasInput gives (input_path order) input
    × NotFrom asked kinds (begun image input list) end)))
