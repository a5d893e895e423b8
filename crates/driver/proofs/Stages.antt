-- The stages of a command on a program.
use Rattle.std.proofs.Common.{◌≡◌, ◌⊎◌, ◌∙◌, ℕ, List, [], Bool, false, Option, Some, Result, Err}
use Rattle.std.proofs.Common.{ap, inr, sym, subst}
use Rattle.std.proofs.KnownBytes.{Appends-nil, Consumes-nil}
use Rattle.std.specs.Io.KnownBytes.{Appends, Consumes}
use Rattle.command_line.specs.Orders.{input_path, rules_path}
use Rattle.command_line.specs.declared.order.Order.{Order}
use Rattle.command_line.specs.declared.order.SweepArgs.{SweepArgs}
use Rattle.guest_elf.specs.File.{IsImageFor, early_refusal, refusal}
use Rattle.guest_elf.specs.declared.fault.ElfFault.{ElfFault}
use Rattle.guest_elf.specs.declared.fault.ElfFault.TheVariants.{Memory}
use Rattle.guest_elf.specs.declared.image.Image.{Image as ProgramImage}
use Rattle.guest_elf.specs.declared.profile.Profile.{Profile}
use Rattle.line_protocol.specs.Lines.{closed_lines}
use Rattle.line_protocol.specs.Answers.{Relation, joined}
use Rattle.line_protocol.specs.Served.{ServedAll, ServedRead, StoppedBy}
use Rattle.line_protocol.specs.declared.fault.ServeFault.{ServeFault}
use Rattle.line_protocol.specs.declared.fault.ServeFault.TheVariants.{ReadFailed, WriteFailed, Endless}
use Rattle.line_protocol.specs.declared.fault.ServeFault.TheVariants.{NoMemory as ServedNoMemory}
use Rattle.driver.specs.Carried.{Carried, CarriedWithImage, Does, Reports, Serves}
use Rattle.program_files.specs.Files.{Giving, HasInput, HasRules, IsFront, NoBytes, NoImage, NoProgram, Streams}
use Rattle.program_files.specs.Files.{Untouched, most_judged, streams}
use Rattle.program_files.specs.Profiles.{IsProfileNamed}
use Rattle.command_line.specs.declared.order.ProfileArgs.{ProfileArgs}
use Rattle.exit_status.specs.Ends.{end_of_serve}
use Rattle.driver.specs.AnyCertified.{CertifiesBy}
use Rattle.driver.specs.Once.{IsReportOnce}
use Rattle.driver.specs.Sweeping.{SweepsImage, SweepsRequest}
use Rattle.command_line.specs.declared.order.Action.{Action}
use Rattle.command_line.specs.declared.order.CertifyArgs.{CertifyArgs}
use Rattle.command_line.specs.declared.order.Action.TheVariants.{Report, Certify}
use Rattle.exit_status.specs.declared.ends.End.{End}
use Rattle.exit_status.specs.declared.ends.End.TheVariants.{Done, Image}
use Rattle.sweep_plans.specs.declared.request.Request.{Request}
use Rattle.checkpoints.specs.Trails.{is_short}
use Rattle.checkpoints.specs.Work.{Work}
use Rattle.replay_session.specs.Session.{turn_of, trail_of}
use Rattle.replay_session.specs.Stages.{Stage, fresh_apart, stage_of}
use Rattle.replay_session.specs.Turns.{Turn}
use Rattle.replay_session.specs.Work.{no_work, work_on}
use Rattle.replay_session.specs.declared.session.Session.{Session}
use Rattle.looks.specs.Views.{ViewsLines}
use Rattle.tries.specs.Tries.{TriesLines, untried}
use Rattle.suppressions.specs.Rules.{Rule}

pub untouched : (left held : Option (List ℕ)) → Untouched (streams left held) (streams left held)
untouched left held = (Consumes-nil left, Appends-nil held)

-- a file that was read for a named instruction set, and that is rejected
pub no-image : {T : Type 0} (gives : Giving) (words : ProfileArgs) (path front bytes : List ℕ) (profile : Profile)
    (fault : ElfFault) → IsProfileNamed words profile → IsFront gives path most_judged front → bytes ≡ front
    → ((fault ≡ Memory) ⊎ (refusal profile.regions bytes ≡ Some fault))
    → ((early : ElfFault) → early_refusal bytes ≡ Some early → ◌≡◌ {A = Result T ElfFault} (Err fault) (Err early))
    → NoImage gives words path (Image fault)
no-image gives words path front bytes profile fault named read same refused least = inr (
  profile,
  named,
  (
    front,
    read,
    (
      subst (λ (xs : List ℕ). (fault ≡ Memory) ⊎ (refusal profile.regions xs ≡ Some fault)) same refused,
      λ early e. let told = least early (subst (λ (xs : List ℕ). early_refusal xs ≡ Some early) (sym same) e) in cc,
    ),
  ),
)

-- where the file gives a program, its outcome is that of the command
pub with-image : (gives : Giving) (order : Order) (action : Action) (profile : Profile) (front bytes : List ℕ)
    (image : ProgramImage) (old new : Streams) (end : End) → IsProfileNamed order.profile profile
    → IsFront gives order.file.now most_judged front → bytes ≡ front → IsImageFor profile bytes image
    → CarriedWithImage gives order action image old new end → Carried gives order action old new end
with-image gives order action profile front bytes image old new end named read same is carried = inr (
  image,
  (profile, front, named, read, subst (λ (xs : List ℕ). IsImageFor profile xs image) same is),
  carried,
)

-- if all files give what the order names, what it asks for is done
pub with-all : (gives : Giving) (order : Order) (action : Action) (profile : Profile) (front bytes : List ℕ)
    (image : ProgramImage) (list : List Rule) (input : List ℕ) (old new : Streams) (end : End)
    → IsProfileNamed order.profile profile
    → IsFront gives order.file.now most_judged front → bytes ≡ front → IsImageFor profile bytes image
    → HasRules gives (rules_path order) list → HasInput gives (input_path order) input
    → Does action image list input old new end → Carried gives order action old new end
with-all gives order action profile front bytes image list input old new end named read same is rules given does =
    with-image gives order action profile front bytes image old new end named read same is
    (inr (list, rules, inr (input, given, does)))

pub does-report : (action : Action) (step : ℕ) (image : ProgramImage) (list : List Rule) (input : List ℕ)
    (left held-old held-new : Option (List ℕ)) (end : End) → action ≡ Report step
    → Reports (IsReportOnce image input list step) held-old held-new end
    → Does action image list input (streams left held-old) (streams left held-new) end
does-report action step image list input left held-old held-new end is reports =
    subst (λ (done : Action). Does done image list input (streams left held-old) (streams left held-new) end) (sym is)
    (Consumes-nil left, reports)

pub does-certify : (action : Action) (args : CertifyArgs) (image : ProgramImage) (list : List Rule) (input : List ℕ)
    (left held-old held-new : Option (List ℕ)) (end : End) → action ≡ Certify args
    → CertifiesBy image input args held-old held-new end
    → Does action image list input (streams left held-old) (streams left held-new) end
does-certify action args image list input left held-old held-new end is certifies =
    subst (λ (done : Action). Does done image list input (streams left held-old) (streams left held-new) end) (sym is)
    (Consumes-nil left, certifies)

pub does-same : (action other : Action) (image : ProgramImage) (list : List Rule) (input : List ℕ) (old new : Streams)
    (end : End) → action ≡ other
    → Does other image list input old new end → Does action image list input old new end
does-same action other image list input old new end is does =
    subst (λ (done : Action). Does done image list input old new end) (sym is) does

-- the end for a fault of a service, if no lines have no replies
pub serves-fault : (AreReplies : Relation) (none-of : (replies : List (List ℕ)) → AreReplies [] replies
    → replies ≡ []) (fault : ServeFault)
    (left-old left-new held-old held-new : Option (List ℕ))
    → StoppedBy fault AreReplies left-old left-new held-old held-new
    → Serves AreReplies (streams left-old held-old) (streams left-new held-new) (end_of_serve fault)
serves-fault AreReplies none-of (ReadFailed replies bytes) left-old left-new held-old held-new stopped =
    (replies, bytes, stopped)
serves-fault AreReplies none-of (Endless replies bytes) left-old left-new held-old held-new stopped =
    (replies, bytes, stopped)
serves-fault AreReplies none-of (WriteFailed replies bytes) left-old left-new held-old held-new stopped =
    (replies, bytes, stopped)
serves-fault AreReplies none-of (ServedNoMemory replies bytes) left-old left-new held-old held-new
    (seen, used, (none, whole)) =
    let no-replies = none-of whole.replies (subst (λ (xs : List ℕ). AreReplies (closed_lines xs) whole.replies) none
    whole.answers) in (
      subst (Consumes left-old left-new) none used,
      subst (λ (rs : List (List ℕ)). Appends held-old held-new (joined rs)) no-replies whole.appended,
    )

-- a session that was just opened, and of whose run no step was executed, has a fresh stage; so a fault of what was
-- served of its stage is one of that
abbrev stage-with : Turn → Work → Bool → Stage
stage-with turn work short = record { turn = turn; work = work; short = short }

module _ (s : ℕ) (session : Session) (turn : Turn) (said : turn_of session ≡ turn)
    (work : work_on (trail_of session) ≡ no_work s)
    (whole : is_short (trail_of session) ≡ false)
    (left-old left-new held-old held-new : Option (List ℕ)) where
  begins-fresh : stage_of session ≡ fresh_apart s turn
  begins-fresh =
      ap (λ (t : Turn). stage-with t (work_on (trail_of session)) (is_short (trail_of session))) said
      ∙ ap (λ (w : Work). stage-with turn w (is_short (trail_of session))) work
      ∙ ap (λ (b : Bool). stage-with turn (no_work s) b) whole

  -- of any service that depends on the stage, and that has no replies to no lines
  served-fault : (AreReplies : Stage → Relation)
      → ((replies : List (List ℕ)) → AreReplies (fresh_apart s turn) [] replies → replies ≡ [])
      → (fault : ServeFault)
      → StoppedBy fault (AreReplies (stage_of session)) left-old left-new held-old held-new
      → Serves (AreReplies (fresh_apart s turn)) (streams left-old held-old) (streams left-new held-new)
      (end_of_serve fault)
  served-fault AreReplies none-of fault stopped =
      serves-fault (AreReplies (fresh_apart s turn)) none-of fault left-old left-new held-old held-new
      (subst (λ (stage : Stage). StoppedBy fault (AreReplies stage) left-old left-new held-old held-new) begins-fresh
      stopped)

  pub viewed-fault : (fault : ServeFault)
      → StoppedBy fault (ViewsLines (stage_of session)) left-old left-new held-old held-new
      → Serves (ViewsLines (fresh_apart s turn)) (streams left-old held-old) (streams left-new held-new)
      (end_of_serve fault)
  viewed-fault fault stopped = served-fault ViewsLines (λ replies none. none) fault stopped

  abbrev tries-of : Stage → Relation
  tries-of stage = TriesLines (untried stage)

  pub tried-fault : (fault : ServeFault)
      → StoppedBy fault (tries-of (stage_of session)) left-old left-new held-old held-new
      → Serves (tries-of (fresh_apart s turn)) (streams left-old held-old) (streams left-new held-new)
      (end_of_serve fault)
  tried-fault fault stopped = served-fault tries-of (λ replies none. none) fault stopped

  pub tried-done : ServedAll (tries-of (stage_of session)) left-old held-old held-new
      → ServedRead (tries-of (stage_of session)) left-old left-new held-old held-new
      → Serves (tries-of (fresh_apart s turn)) (streams left-old held-old) (streams left-new held-new) Done
  tried-done all read = (
    subst (λ (stage : Stage). ServedAll (tries-of stage) left-old held-old held-new) begins-fresh all,
    subst (λ (stage : Stage). ServedRead (tries-of stage) left-old left-new held-old held-new) begins-fresh read,
  )

-- a file that gives no bytes gives no program
no-program : (gives : Giving) (profile : Profile) (path : List ℕ) (end : End) → NoBytes gives path end
    → NoProgram gives profile.regions path end
no-program gives profile path (Image fault) none = absurd none
no-program gives profile path end none = none

pub no-file : (gives : Giving) (words : ProfileArgs) (path : List ℕ) (profile : Profile) (end : End)
    → IsProfileNamed words profile → NoBytes gives path end → NoImage gives words path end
no-file gives words path profile end named none =
    inr (profile, named, no-program gives profile path end none)

-- where the file gives a program, the outcome of a sweep of it is that of the request; the bytes as they were read, as
-- the program was read from them, and as they are swept
pub with-program : (gives : Giving) (order : Order) (words : SweepArgs) (request : Request) (profile : Profile)
    (front bytes file : List ℕ) (image : ProgramImage) (old : Streams) (held : Option (List ℕ)) (end : End)
    → IsProfileNamed order.profile profile
    → IsFront gives order.file.now most_judged front → bytes ≡ front → IsImageFor profile bytes image → file ≡ front
    → SweepsImage gives order words request file image old held end
    → SweepsRequest gives order words request old held end
with-program gives order words request profile front bytes file image old held end named read same is given swept =
    inr (
      profile,
      front,
      image,
      named,
      read,
      subst (λ xs. IsImageFor profile xs image) same is,
      subst (λ xs. SweepsImage gives order words request xs image old held end) given swept,
    )
