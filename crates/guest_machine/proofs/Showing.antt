-- From what is done to a guest, to the states that it holds.
use Rattle.std.proofs.Common.{cond, ◌≡◌, ℕ, suc, ◌<◌, ◌≤◌, Bool, true, false, nat_lt, arith, ap, sym, refl, ◌∙◌, ◌+◌}
use Rattle.std.proofs.Common.{List}
use Rattle.std.proofs.Common.{[]}
use Rattle.std.proofs.Common.{◌∷◌, ◌++◌, length, length-append, slice_index_or}
use Rattle.std.proofs.lemmas.Bool.Decides.{nat_tests}
use Rattle.std.proofs.lemmas.List.FromFn.{length-map-range_with_len}
use Rattle.guest_machine.specs.State.{State}
use Rattle.guest_machine.specs.Registers.{known}
use Rattle.guest_machine.specs.Calls.{bytes_taken}
use Rattle.shadow_memory.specs.Ranges.{written, byte_of}
use Rattle.shadow_memory.specs.Memories.{bytes_in, shadows_in}
use Rattle.guest_heap.specs.Heaps.{blocks_of}
use Rattle.control_registers.specs.Written.{registers_in}
use Rattle.guest_elf.specs.Profiles.{has_controls}
use Rattle.guest_machine.specs.Exec.{exec, uses_at, effect_at, touched_at, touched_of, written_to, counted}
use Rattle.guest_machine.specs.Exec.{is_heap_action, action_at}
use Rattle.guest_machine.specs.Exec.{seen_also, intake_at}
use Rattle.guest_machine.specs.Acting.{IsDone}
use Rattle.guest_machine.specs.Alterations.{altered, altered_bytes, altered_core}
use Rattle.guest_machine.specs.Run.{poked}
use Rattle.guest_machine.specs.Streams.{rested, rested_core}
use Rattle.guest_machine.specs.declared.machine.Noted.{Noted}
use Rattle.guest_machine.specs.declared.machine.Progress.{Progress}
use Rattle.instructions.specs.Codes.{len_of, number_of}
use Rattle.instructions.specs.declared.code.Code.{Code}
use Rattle.error_events.specs.Adding.{add_event, add_events, GroupsGrowBy}
use Rattle.error_events.specs.Shown.{groups_of}
use Rattle.error_events.specs.declared.event.Event.{Event}
use Rattle.error_events.specs.declared.event.Group.{Group}
use Rattle.guest_machine.specs.Shows.{core_of, bytes_of, Holds}
use Rattle.guest_machine.specs.Doing.{noted_of, note_events, touched_by, DoesStep, Sets}
use Rattle.shadow_memory.specs.declared.memory.Memory.{Memory}
use Rattle.guest_machine.specs.declared.machine.Guest.{Guest}
use Rattle.guest_machine.specs.declared.setup.Setup.{Setup}
use Rattle.run_values.specs.declared.alteration.Alteration.{Alteration}
use Rattle.guest_machine.specs.declared.machine.Noted.{Noted}
use Rattle.guest_machine.specs.declared.machine.Progress.{Progress}
use Rattle.guest_machine.specs.declared.setup.Touched.{Touched}

is-less : (m n : ℕ) → m < n → nat_lt m n ≡ true
is-less m n h = grind (arith, nat_tests)

is-not-less : (m n : ℕ) → n ≤ m → nat_lt m n ≡ false
is-not-less m n h = grind (arith, nat_tests)

-- errors noted one list after the other
pub note_events_append : (noted : List Group × Bool) (ds es : List Event)
    → note_events noted (ds ++ es) ≡ note_events (note_events noted ds) es
unfolding note_events
note_events_append noted [] es = refl
note_events_append noted (d ∷ ds) es = note_events_append (add_event noted.0 d, true) ds es

-- their groups, and whether there is one
noted-groups : (noted : List Group × Bool) (es : List Event) → (note_events noted es).0 ≡ add_events noted.0 es
unfolding note_events add_events
noted-groups noted [] = refl
noted-groups noted (e ∷ es) = noted-groups (add_event noted.0 e, true) es

stays-raised : (gs : List Group) (es : List Event) → (note_events (gs, true) es).1 ≡ true
unfolding note_events
stays-raised gs [] = refl
stays-raised gs (e ∷ es) = stays-raised (add_event gs e) es

noted-raised : (gs : List Group) (es : List Event) (n : ℕ) → (note_events (gs, false) es).1 ≡ nat_lt n (n + length es)
unfolding note_events
noted-raised gs [] n = sym (is-not-less n (n + 0) (omega arith))
noted-raised gs (e ∷ es) n = stays-raised (add_event gs e) es ∙ sym (is-less n (n + suc (length es)) (omega arith))

-- the bytes that are written out are as many as are taken
pub length_taken : (taken : ℕ → ℕ) (n : ℕ) → length (bytes_taken taken n) ≡ n
length_taken taken n = length-map-range_with_len taken 0 n

-- the state that a guest holds, with the output and the errors of another
shown : Guest → State → State
shown m s = record {
  bytes = bytes_of m;
  core = core_of m;
  position = m.progress.position;
  end_seen = m.progress.end_seen;
  output = s.output;
  heap_calls = m.progress.heap_calls;
  events = s.events;
}

-- a guest that has rested
pub holds-rested : (old new : Guest) (n : ℕ) → Sets old new (rested_core (core_of old) n) → (s : State) → Holds old s
    → Holds new (rested s n)
unfolding rested
holds-rested old new n d s h = record {
  bytes = ap bytes_in d.memory ∙ h.bytes;
  core = d.core ∙ ap (λ core. rested_core core n) h.core;
  position = ap (λ (p : Progress). p.position) d.progress ∙ h.position;
  end_seen = ap (λ (p : Progress). p.end_seen) d.progress ∙ h.end_seen;
  output = ap (λ (p : Progress). p.output_len) d.progress ∙ h.output;
  heap_calls = ap (λ (p : Progress). p.heap_calls) d.progress ∙ h.heap_calls;
  groups = ap (λ (x : Noted). groups_of x.groups) d.noted ∙ h.groups;
}

-- a state that a guest holds is that one
shown-is : (m : Guest) (s : State) → Holds m s → shown m s ≡ s
unfolding shown
shown-is m s h =
    λ i. record {
      bytes = h.bytes i;
      core = h.core i;
      position = h.position i;
      end_seen = h.end_seen i;
      output = s.output;
      heap_calls = h.heap_calls i;
      events = s.events;
    }

-- what a step does to a guest holds exec of each state that it held
pub holds_exec : GroupsGrowBy → (old new : Guest) (setup : Setup)
    → DoesStep old new setup → (s : State) → Holds old s → Holds new (exec s setup)
unfolding exec intake_at shown
holds_exec grow old new setup d s h =
    let n = old.progress.output_len in
    let effect = effect_at (core_of old) (bytes_of old) old.progress.position n setup in
    let uses = uses_at (core_of old) (bytes_of old) old.progress.position n setup in
    let effects : effect ≡ effect_at s.core s.bytes s.position (length s.output) setup =
    λ i. effect_at (h.core i) (h.bytes i) (h.position i) (h.output i) setup in
    let usages : uses ≡ uses_at s.core s.bytes s.position (length s.output) setup =
    λ i. uses_at (h.core i) (h.bytes i) (h.position i) (h.output i) setup in
    record {
      bytes = d.bytes ∙ (λ i. written_to (h.bytes i) (usages i).writes (effects i).made);
      core = d.core ∙ ap (λ x. x.core) effects;
      position = d.position ∙ (λ i. h.position i + (intake_at (h.core i) (h.bytes i) (h.position i) setup).count);
      end_seen =
          d.end_seen ∙ (λ i. seen_also (h.end_seen i) (intake_at (h.core i) (h.bytes i) (h.position i) setup).ends);
      output =
          d.output ∙ (λ i. h.output i + length (effects i).output)
          ∙ sym (length-append s.output (effect_at s.core s.bytes s.position (length s.output) setup).output);
      heap_calls =
          d.heap_calls ∙ (λ i. counted (h.heap_calls i)
          (is_heap_action (h.core i) (action_at (h.core i) (h.bytes i) setup.hooks)));
      groups =
          ap (λ (noted : List Group × Bool). noted.0) d.noted
          ∙ noted-groups (noted_of old.noted) effect.raised
          ∙ (λ i. add_events (h.groups i) (effects i).raised)
          ∙ sym (grow s.events (effect_at s.core s.bytes s.position (length s.output) setup).raised);
    }

-- it raised an error if it notes one and none was noted before
pub raised_exec : (old new : Guest) (setup : Setup) → DoesStep old new setup → old.noted.raised ≡ false → (s : State)
    → Holds old s
    → new.noted.raised ≡ nat_lt (length s.events) (length (exec s setup).events)
unfolding exec
raised_exec old new setup d fresh s h =
    let effect = effect_at (core_of old) (bytes_of old) old.progress.position old.progress.output_len setup in
    let effects : effect ≡ effect_at s.core s.bytes s.position (length s.output) setup =
    λ i. effect_at (h.core i) (h.bytes i) (h.position i) (h.output i) setup in
    ap (λ (noted : List Group × Bool). noted.1) d.noted
    ∙ ap (λ (b : Bool). (note_events ((noted_of old.noted).0, b) effect.raised).1) fresh
    ∙ noted-raised (noted_of old.noted).0 effect.raised (length s.events)
    ∙ (λ i. nat_lt (length s.events) (length s.events + length (effects i).raised))
    ∙ ap (nat_lt (length s.events)) (sym
    (length-append s.events (effect_at s.core s.bytes s.position (length s.output) setup).raised))

-- and the ranges that it touched are those that the state's step touches
pub touched_exec : (old : Guest) (setup : Setup) (t : Touched) → t ≡ touched_by old setup
    → (s : State) → Holds old s → t ≡ touched_of s setup
touched_exec old setup t e s h = e ∙ (λ i. touched_at (h.core i) (h.bytes i) (h.position i) (h.output i) setup)

-- a guest that was altered
pub holds-altered : (old new : Guest) (alteration : Alteration) → IsDone alteration.act old new → (s : State)
    → Holds old s → Holds new (altered s alteration)
unfolding altered
holds-altered old new alteration c s h =
    record {
      bytes = c.bytes ∙ (λ i. altered_bytes alteration.act (h.core i) (h.bytes i));
      core = c.core ∙ (λ i. altered_core alteration.act (h.core i) (h.bytes i));
      position = ap (λ (p : Progress). p.position) c.progress ∙ h.position;
      end_seen = ap (λ (p : Progress). p.end_seen) c.progress ∙ h.end_seen;
      output = ap (λ (p : Progress). p.output_len) c.progress ∙ h.output;
      heap_calls = ap (λ (p : Progress). p.heap_calls) c.progress ∙ h.heap_calls;
      groups = ap (λ (n : Noted). groups_of n.groups) c.noted ∙ h.groups;
    }

-- a guest with the byte values of a code written
pub holds-poked : (m : Guest) (memory : Memory) (addr : ℕ) (code : Code)
    → bytes_in memory ≡ written (bytes_in m.memory) addr (len_of code) (byte_of (number_of code))
    → shadows_in memory ≡ shadows_in m.memory
    → (zero : slice_index_or m.registers 0 (known 0) ≡ known 0) (s : State) → Holds m s
    → Holds (record m { memory = memory; zero = zero }) (poked s addr code)
unfolding poked
holds-poked m memory addr code b c zero s h =
    record {
      bytes = b ∙ ap (λ f. written f addr (len_of code) (byte_of (number_of code))) h.bytes;
      core =
          (λ i. record {
            shadow = c i;
            registers = m.registers;
            pc = m.pc;
            status = m.status;
            frames = m.frames;
            blocks = blocks_of m.heap;
            isa = m.isa;
            stack = m.stack;
            limits = m.limits;
            reserved = m.reserved;
            controls = registers_in m.controls;
            steps = cond (has_controls m.isa) m.steps 0;
          }) ∙ h.core;
      position = h.position;
      end_seen = h.end_seen;
      output = h.output;
      heap_calls = h.heap_calls;
      groups = h.groups;
    }
