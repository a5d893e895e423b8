-- A line of a session makes no alteration but of a range: by the cases of the language.
use Rattle.std.proofs.Common.{ℕ, Bool, true, false, cond, List, [], ◌∷◌, Option, Some, None, Result, Err}
use Rattle.std.specs.Prelude.{IfOk, IfSome, codes, drop}
use Rattle.std.specs.Prelude.{nat_eq}
use Rattle.std.specs.List.{starts_with}
use Rattle.std.specs.Str.{bytes_eq}
use Rattle.shadow_memory.specs.declared.cells.RangeKind.{RangeKind}
use Rattle.suppressions.specs.Added.{added}
use Rattle.suppressions.specs.Rules.{Rule}
use Rattle.suppressions.specs.Words.{leak_kinds}
use Rattle.suppressions.specs.declared.leak_kinds.LeakKinds.{LeakKinds}
use Rattle.commands.specs.Commands.{add_with, alone, append_of, append_with, command_among, command_of, cut_of, fields}
use Rattle.commands.specs.Commands.{goto_with, has_empty, input_of, input_with, kind_of, mark_of, mark_with, number}
use Rattle.commands.specs.Commands.{one_number, option_named, option_of, option_with, parsed, patch_half_of}
use Rattle.commands.specs.Commands.{patch_half_with, patch_of, patch_with, replace_of, short, show_with, small}
use Rattle.commands.specs.Commands.{switch_of, switch_with, taken, unmark_with}
use Rattle.commands.specs.Laws.{LinesMakeRanges, MakesRange}
use Rattle.commands.specs.declared.command.Command.{Command}
use Rattle.commands.specs.declared.command.Command.TheVariants.{Report, Worked}
use Rattle.commands.specs.declared.edit.Edit.TheVariants.{Callers, Redzone, Volume}
use Rattle.commands.specs.declared.fault.Fault.{Fault}
use Rattle.commands.specs.declared.fault.Fault.TheVariants.{BadCommand, BadOption}

abbrev pub Fits : Result Command Fault → Type 0
Fits result = IfOk result MakesRange

abbrev pub Suits : Option Command → Type 0
Suits command = IfSome command MakesRange

-- by a test
either : (b : Bool) (x y : Result Command Fault) → Fits x → Fits y → Fits (cond b x y)
either true x y h k = h
either false x y h k = k

one-of : (b : Bool) (x y : Option Command) → Suits x → Suits y → Suits (cond b x y)
one-of true x y h k = h
one-of false x y h k = k

-- what is taken
takes : (command : Option Command) → Suits command → Fits (taken command)
takes None h = tt
takes (Some command) h = h

-- commands with numbers
goes : (n : Option ℕ) → Suits (goto_with n)
goes None = tt
goes (Some n) = tt

unmarks : (n : Option ℕ) → Suits (unmark_with n)
unmarks None = tt
unmarks (Some n) = tt

inputs-with : (offset value : Option ℕ) → Suits (input_with offset value)
inputs-with None value = tt
inputs-with (Some offset) None = tt
inputs-with (Some offset) (Some value) = tt

replaces : (offset : List ℕ) (more : List (List ℕ)) → Suits (replace_of offset more)
unfolding replace_of
replaces offset [] = tt
replaces offset (value ∷ []) = inputs-with (number offset) (small (number value))
replaces offset (value ∷ field ∷ more) = tt

appends-with : (value : Option ℕ) → Suits (append_with value)
appends-with None = tt
appends-with (Some value) = tt

appends : (more : List (List ℕ)) → Suits (append_of more)
unfolding append_of
appends [] = tt
appends (value ∷ []) = appends-with (small (number value))
appends (value ∷ field ∷ more) = tt

cuts : (more : List (List ℕ)) → Suits (cut_of more)
unfolding cut_of
cuts [] = tt
cuts (field ∷ more) = tt

inputs : (more : List (List ℕ)) → Suits (input_of more)
unfolding input_of
inputs [] = tt
inputs (word ∷ more) =
    one-of (bytes_eq word (codes "append")) (append_of more) _ (appends more)
    (one-of (bytes_eq word (codes "cut")) (cut_of more) (replace_of word more) (cuts more) (replaces word more))

patches-with : (addr word : Option ℕ) → Suits (patch_with addr word)
patches-with None word = tt
patches-with (Some addr) None = tt
patches-with (Some addr) (Some word) = tt

patches : (more : List (List ℕ)) → Suits (patch_of more)
unfolding patch_of
patches [] = tt
patches (addr ∷ []) = tt
patches (addr ∷ word ∷ []) = patches-with (number addr) (number word)
patches (addr ∷ word ∷ field ∷ more) = tt

patch-halves-with : (addr half : Option ℕ) → Suits (patch_half_with addr half)
patch-halves-with None half = tt
patch-halves-with (Some addr) None = tt
patch-halves-with (Some addr) (Some half) = tt

patch-halves : (more : List (List ℕ)) → Suits (patch_half_of more)
unfolding patch_half_of
patch-halves [] = tt
patch-halves (addr ∷ []) = tt
patch-halves (addr ∷ half ∷ []) = patch-halves-with (number addr) (short (number half))
patch-halves (addr ∷ half ∷ field ∷ more) = tt

-- a mark makes a range
marks-with : (step addr len : Option ℕ) (kind : Option RangeKind) → Suits (mark_with step addr len kind)
marks-with None addr len kind = tt
marks-with (Some step) None len kind = tt
marks-with (Some step) (Some addr) None kind = tt
marks-with (Some step) (Some addr) (Some len) None = tt
marks-with (Some step) (Some addr) (Some len) (Some kind) = tt

marks : (more : List (List ℕ)) → Suits (mark_of more)
unfolding mark_of
marks [] = tt
marks (step ∷ []) = tt
marks (step ∷ addr ∷ []) = tt
marks (step ∷ addr ∷ len ∷ []) = tt
marks (step ∷ addr ∷ len ∷ kind ∷ []) = marks-with (number step) (number addr) (number len) (kind_of kind)
marks (step ∷ addr ∷ len ∷ kind ∷ field ∷ more) = tt

-- switches and options
switches-with : (on : Bool) (i : Option ℕ) → Suits (switch_with on i)
switches-with on None = tt
switches-with on (Some i) = tt

switches : (more : List (List ℕ)) → Suits (switch_of more)
unfolding switch_of
switches [] = tt
switches (word ∷ more) =
    one-of (bytes_eq word (codes "on")) (switch_with true (one_number more)) _ (switches-with true (one_number more))
    (one-of (bytes_eq word (codes "off")) (switch_with false (one_number more)) None
    (switches-with false (one_number more)) tt)

adds : (rule : Option Rule) → Fits (add_with rule)
adds None = tt
adds (Some rule) = tt

counts : (n : Option ℕ) → Fits (option_with (λ n. Callers n) n)
counts None = tt
counts (Some n) = tt

fences : (n : Option ℕ) → Fits (option_with (λ n. Redzone n) n)
fences None = tt
fences (Some n) = tt

queues : (n : Option ℕ) → Fits (option_with (λ n. Volume n) n)
queues None = tt
queues (Some n) = tt

shows : (kinds : Option LeakKinds) → Fits (show_with kinds)
shows None = tt
shows (Some kinds) = tt

named : (name field : List ℕ) → Fits (option_named name field)
unfolding option_named
named name field =
    either (bytes_eq name (codes "callers")) _ _ (counts (number field))
    (either (bytes_eq name (codes "redzone")) _ _ (fences (number field))
    (either (bytes_eq name (codes "queue")) _ _ (queues (number field))
    (either (bytes_eq name (codes "show")) _ (Err BadOption) (shows (leak_kinds field)) tt)))

options : (more : List (List ℕ)) → Fits (option_of more)
unfolding option_of
options [] = tt
options (name ∷ []) = tt
options (name ∷ field ∷ []) = named name field
options (name ∷ field ∷ other ∷ more) = tt

stands-alone : (command : Command) (more : List (List ℕ)) → MakesRange command → Fits (alone command more)
unfolding alone
stands-alone command [] h = h
stands-alone command (field ∷ more) h = tt

-- the whole language
commands : (word : List ℕ) (more : List (List ℕ)) → Fits (command_of word more)
unfolding command_of
commands word more =
    either (bytes_eq word (codes "goto")) _ _ (takes _ (goes (one_number more)))
    (either (bytes_eq word (codes "report")) _ _ (stands-alone Report more tt)
    (either (bytes_eq word (codes "input")) _ _ (takes _ (inputs more))
    (either (bytes_eq word (codes "patch")) _ _ (takes _ (patches more))
    (either (bytes_eq word (codes "patch16")) _ _ (takes _ (patch-halves more))
    (either (bytes_eq word (codes "mark")) _ _ (takes _ (marks more))
    (either (bytes_eq word (codes "unmark")) _ _ (takes _ (unmarks (one_number more)))
    (either (bytes_eq word (codes "supp")) _ _ (takes _ (switches more))
    (either (bytes_eq word (codes "option")) _ _ (options more)
    (either (bytes_eq word (codes "worked")) _ (Err BadCommand) (stands-alone Worked more tt) tt)))))))))

among : (words : List (List ℕ)) → Fits (command_among words)
among [] = tt
among (word ∷ more) = commands word more

pub lines-make-ranges : LinesMakeRanges
unfolding parsed
lines-make-ranges line =
    either (has_empty (fields line)) (Err BadCommand) _ tt
    (either (starts_with nat_eq line (codes "supp add ")) (add_with (added (drop 9 line))) (command_among (fields line))
    (adds (added (drop 9 line))) (among (fields line)))
