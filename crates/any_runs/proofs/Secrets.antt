-- One run of a program with bytes of its input and its memory undefined stands for the others.
use Rattle.std.proofs.Common.{◌≡◌, ℕ, ◌^◌, ◌<◌, Bool, true, false, cond, refl, sym, ap, ◌∙◌, subst, arith}
use Rattle.std.proofs.Common.{List, [], All, slice_index}
use Rattle.std.specs.Int.{bit_at}
use Rattle.std.proofs.lemmas.Bool.{false≢true}
use Rattle.shadow_memory.specs.Shadows.{Shadow}
use Rattle.guest_elf.specs.declared.image.Image.{Image}
use Rattle.guest_machine.specs.State.{State}
use Rattle.guest_machine.specs.Exec.{touched_of}
use Rattle.guest_machine.specs.Run.{after_marks, post, pre}
use Rattle.clean_reports.specs.Agreement.{AreBytes, BytesAgree}
use Rattle.clean_reports.specs.Disturbed.{IsStartOf}
use Rattle.clean_reports.specs.Heap.{BlocksAreOpen}
use Rattle.clean_reports.specs.Uses.{NoUse}
use Rattle.clean_reports.proofs.HeapRuns.{heap-stays-open, blocks-open}
use Rattle.clean_reports.proofs.Noise.{disturbed-runs-exist}
use Rattle.any_runs.specs.Echoes.{StandsBut}
use Rattle.any_runs.specs.Inputs.{unchanged}
use Rattle.any_runs.specs.Secrets.{AnySecrets, Secrets, faded_at, known_at, known_byte, reveals, secret_at}
use Rattle.any_runs.specs.Sharper.{SharperShadow}
use Rattle.any_runs.specs.Stands.{Stands, at_step}
use Rattle.any_runs.proofs.AnyInput.{plain, start-stands}
use Rattle.any_runs.proofs.Blurring.{fade-bytes, fade-sharper}
use Rattle.any_runs.proofs.EchoRuns.{as-but, echo-runs-stand}

-- a byte that is made defined stands for one that is

knows-sharper : (b : Bool) (x y : Shadow) → SharperShadow x y → (b ≡ true → y.undef ≡ 0)
    → SharperShadow (cond b (known_byte x) x) y
unfolding known_byte
knows-sharper false x y s none = s
knows-sharper true x y s none = go x.accessible refl
  where
    go : (may : Bool) → x.accessible ≡ may
        → SharperShadow (cond may (record { accessible = true; undef = 0 }) x) y
    go true e = record {
      accessible = sym e ∙ s.accessible;
      undef = λ i h clear. subst (λ u. bit_at u i ≡ 0) (sym (none refl)) clear;
      one = omega arith;
      other = s.other;
    }
    go false e = s

knows-bytes : (b : Bool) (x : Shadow) (v w : ℕ) → (b ≡ true → v ≡ w) → BytesAgree x v w
    → BytesAgree (cond b (known_byte x) x) v w
unfolding known_byte
knows-bytes false x v w same agree = agree
knows-bytes true x v w same agree = go x.accessible refl
  where
    go : (may : Bool) → x.accessible ≡ may → BytesAgree (cond may (record { accessible = true; undef = 0 }) x) v w
    go true e opened i h clear = ap (λ n. bit_at n i) (same refl)
    go false e opened i h clear = absurd (false≢true (sym e ∙ opened))

-- the starts

secret-start : (secrets : Secrets) (start : State) (bytes : ℕ → ℕ) → Stands start start → AreBytes bytes
    → ((a : ℕ) → secrets.memory a ≡ false → start.bytes a ≡ bytes a)
    → StandsBut (faded_at secrets.memory start) (record start { bytes = bytes })
unfolding faded_at
secret-start secrets start bytes d small outside =
    let b = as-but start start d in
    record {
      memory = record {
        shadow = λ a. fade-sharper (secrets.memory a) _ _ (d.memory.shadow a);
        each = λ a. fade-bytes (secrets.memory a) _ _ _ _ (outside a) (d.memory.each a);
        one = d.memory.one;
        other = small;
      };
      registers = b.registers;
      controls = b.controls;
      pc = b.pc;
      status = b.status;
      frames = b.frames;
      blocks = b.blocks;
      isa = b.isa;
      stack = b.stack;
      limits = b.limits;
      reserved = b.reserved;
      steps = b.steps;
      position = b.position;
      end_seen = b.end_seen;
      output = b.output;
      heap_calls = b.heap_calls;
      events = b.events;
    }

-- what is revealed

reveal-stands : (test : ℕ → Bool) (s t : State) → ((a : ℕ) → test a ≡ true → s.bytes a ≡ t.bytes a)
    → ((a : ℕ) → test a ≡ true → (t.core.shadow a).undef ≡ 0) → StandsBut s t → StandsBut (known_at test s) t
unfolding known_at
reveal-stands test s t same none d = record {
  memory = record {
    shadow = λ a. knows-sharper (test a) _ _ (d.memory.shadow a) (none a);
    each = λ a. knows-bytes (test a) _ _ _ (same a) (d.memory.each a);
    one = d.memory.one;
    other = d.memory.other;
  };
  registers = d.registers;
  controls = d.controls;
  pc = d.pc;
  status = d.status;
  frames = d.frames;
  blocks = d.blocks;
  isa = d.isa;
  stack = d.stack;
  limits = d.limits;
  reserved = d.reserved;
  steps = d.steps;
  position = d.position;
  end_seen = d.end_seen;
  output = d.output;
  heap_calls = d.heap_calls;
  events = d.events;
}

reveal-silent : (test : ℕ → Bool) (s : State) → (known_at test s).events ≡ s.events
unfolding known_at
reveal-silent test s = refl

begins-too : (image : Image) (start begun : State) → begun ≡ record start { bytes = begun.bytes }
    → IsStartOf image start → IsStartOf image begun
begins-too image start begun is begins = record {
  core = ap (λ (s : State). s.core) is ∙ begins.core;
  events = ap (λ (s : State). s.events) is ∙ begins.events;
}

pub any-secrets : (input another : List ℕ) → ((k : ℕ) → slice_index input k < 2 ^ 8)
    → All (λ byte. byte < 2 ^ 8) input → All (λ byte. byte < 2 ^ 8) another → AnySecrets input another
unfolding post after_marks pre
any-secrets input another slice small smaller image start begun setup other secrets n begins bytes is also fit d =
    let agrees = ((disturbed-runs-exist input slice).itself image start setup [] 0 begins bytes is tt tt
    (subst NoUse (sym begins.events) tt)).first in
    let itself = start-stands image start begins agrees in
    let first : StandsBut (faded_at secrets.memory start) begun =
    subst (λ (s : State). StandsBut (faded_at secrets.memory start) s) (sym d.begins)
    (secret-start secrets start begun.bytes itself d.bytes d.memory) in
    let open-at : (k : ℕ) → k < n → BlocksAreOpen (at_step begun other unchanged k).core =
    λ k h. subst (λ (s : State). BlocksAreOpen s.core) (sym (plain begun other k))
    (blocks-open _ (heap-stays-open image begun other [] (begins-too image start begun d.begins begins) tt k)) in
    let both =
    echo-runs-stand input another small smaller setup other secrets.input (faded_at secrets.memory start) begun
    (reveals secrets) unchanged n is also d.input first
    (λ k h. record {
      stands = λ s. reveal-stands (secrets.revealed k) _ _
          (λ a yes. d.revealed k a h yes ∙ ap (λ (t : State). t.bytes a) (sym (plain begun other k)))
          (λ a yes. ap (λ (t : State). (t.core.shadow a).undef) (plain begun other k) ∙ d.defined k a h yes) s;
      events = reveal-silent (secrets.revealed k) _;
    }) fit open-at in
    record {
      stands = λ k h. subst (λ (t : State). StandsBut (secret_at secrets start setup k) t) (plain begun other k)
          (both.0 k h);
      touched = λ k h. both.1 k h ∙ ap (λ (t : State). touched_of t other) (plain begun other k);
    }
