-- Acts that make no bit defined keep agreement.
use Rattle.std.proofs.Common.{◌≡◌, ℕ, ◌+◌, ◌*◌, ◌%◌, ◌^◌, ◌<◌, Bool, true, false, cond, refl, sym, ap, ◌∙◌, subst}
use Rattle.std.proofs.Common.{arith, nat_lt, lt-ltb}
use Rattle.std.proofs.lemmas.Bool.{false≢true, ltb-true, and_parts}
use Rattle.std.proofs.lemmas.Bool.Decides.{nat_tests}
use Rattle.std.proofs.lemmas.Nat.{xor_lt}
use Rattle.std.proofs.lemmas.Nat.Bits.{bit_at_xor}
use Rattle.std.specs.Int.{bit_at}
use Rattle.definedness.specs.Operations.{xor_of}
use Rattle.definedness.specs.declared.Bits.{Bits}
use Rattle.shadow_memory.specs.Ranges.{above, offset, is_in, changed_in, window, written, byte_of, little_word}
use Rattle.shadow_memory.specs.Shadows.{Shadow}
use Rattle.shadow_memory.proofs.Ranging.{byte-of-number}
use Rattle.guest_machine.specs.Alterations.{turned}
use Rattle.guest_machine.specs.Effects.{moved_to}
use Rattle.guest_machine.specs.Exec.{is_running}
use Rattle.guest_machine.specs.Registers.{register, set_register}
use Rattle.guest_machine.specs.State.{Core, State}
use Rattle.clean_reports.specs.Agreement.{AreBytes, BytesAgree, MemoriesAgree, ValuesAgree, StatesAgree}
use Rattle.clean_reports.proofs.Bits.{byte-bit}
use Rattle.clean_reports.proofs.Memory.{byte-lt, window-bytes, written-bytes}
use Rattle.clean_reports.proofs.Registers.{HeldAgree, held-of, set-in-agrees, register-agrees}

-- two states with other bytes and cores
abbrev pub with : State → (ℕ → ℕ) → Core → State
with s bytes core = record s { bytes = bytes; core = core }

-- what keeps agreement if it is done to both keeps it where it is done to machines that run
done-if : (b c : Bool) → b ≡ c → (s t : State) (f g : ℕ → ℕ) (x y : Core) → StatesAgree s t
    → StatesAgree (with s f x) (with t g y)
    → StatesAgree (with s (cond b f s.bytes) (cond b x s.core)) (with t (cond c g t.bytes) (cond c y t.core))
done-if true true same s t f g x y d done = done
done-if false false same s t f g x y d done = d
done-if true false same s t f g x y d done = absurd (false≢true (sym same))
done-if false true same s t f g x y d done = absurd (false≢true same)

pub if-running : (s t : State) (f g : ℕ → ℕ) (x y : Core) → StatesAgree s t → StatesAgree (with s f x) (with t g y)
    → StatesAgree (with s (cond (is_running s.core.status) f s.bytes) (cond (is_running s.core.status) x s.core))
    (with t (cond (is_running t.core.status) g t.bytes) (cond (is_running t.core.status) y t.core))
if-running s t f g x y d done =
    done-if (is_running s.core.status) (is_running t.core.status) (ap is_running d.status) s t f g x y d done

-- pc, and the number of steps --

pub passed-both : (s t : State) (to there m n : ℕ) → to ≡ there → m ≡ n → StatesAgree s t
    → StatesAgree (with s s.bytes (record (moved_to s.core to) { steps = m }))
    (with t t.bytes (record (moved_to t.core there) { steps = n }))
passed-both s t to there m n same counted d = record {
  memory = d.memory;
  registers = d.registers;
  shadow = d.shadow;
  pc = same;
  status = d.status;
  frames = d.frames;
  blocks = d.blocks;
  isa = d.isa;
  stack = d.stack;
  limits = d.limits;
  reserved = d.reserved;
  controls = d.controls;
  steps = counted;
  position = d.position;
  end_seen = d.end_seen;
  output = d.output;
  heap_calls = d.heap_calls;
  events = d.events;
}

pub moved-both : (s t : State) (to there : ℕ) → to ≡ there → StatesAgree s t
    → StatesAgree (with s s.bytes (moved_to s.core to)) (with t t.bytes (moved_to t.core there))
moved-both s t to there same d = passed-both s t to there s.core.steps t.core.steps same d.steps d

-- registers --

pub helds-agree : (s t : State) → StatesAgree s t → HeldAgree (held-of s.core) (held-of t.core)
helds-agree s t d = record { registers = d.registers; controls = d.controls }

pub set-both : (s t : State) (r : ℕ) (x y : Bits) → ValuesAgree x y → StatesAgree s t
    → StatesAgree (with s s.bytes (set_register s.core r x)) (with t t.bytes (set_register t.core r y))
unfolding set_register
set-both s t r x y v d = record {
  memory = d.memory;
  registers = (set-in-agrees (held-of s.core) (held-of t.core) (helds-agree s t d) r x y v).registers;
  shadow = d.shadow;
  pc = d.pc;
  status = d.status;
  frames = d.frames;
  blocks = d.blocks;
  isa = d.isa;
  stack = d.stack;
  limits = d.limits;
  reserved = d.reserved;
  controls = d.controls;
  steps = d.steps;
  position = d.position;
  end_seen = d.end_seen;
  output = d.output;
  heap_calls = d.heap_calls;
  events = d.events;
}

-- one value
pub same-agrees : (value undef : ℕ) → value < 2 ^ 32
    → ValuesAgree (record { value = value; undef = undef }) (record { value = value; undef = undef })
same-agrees value undef small = record { undef = refl; value = λ i h clear. refl; one = small; other = small }

-- bits that are turned in both
turned-bit : (x y mask i : ℕ) → bit_at x i ≡ bit_at y i → bit_at (xor_of x mask) i ≡ bit_at (xor_of y mask) i
unfolding xor_of
turned-bit x y mask i same =
    bit_at_xor x mask i ∙ ap (λ b. (b + bit_at mask i) % 2) same ∙ sym (bit_at_xor y mask i)

turned-agrees : (x y : Bits) (mask : ℕ) → mask < 2 ^ 32 → ValuesAgree x y → ValuesAgree (turned x mask) (turned y mask)
unfolding xor_of
turned-agrees x y mask small v = record {
  undef = v.undef;
  value = λ i h clear. turned-bit x.value y.value mask i (v.value i h clear);
  one = xor_lt 32 x.value mask v.one small;
  other = xor_lt 32 y.value mask v.other small;
}

pub flip-both : (s t : State) (r mask : ℕ) → mask < 2 ^ 32 → StatesAgree s t
    → StatesAgree (with s s.bytes (set_register s.core r (turned (register s.core r) mask)))
    (with t t.bytes (set_register t.core r (turned (register t.core r) mask)))
unfolding register
flip-both s t r mask small d =
    set-both s t r _ _
    (turned-agrees _ _ mask small (register-agrees s.core (held-of t.core) (helds-agree s t d) r)) d

-- memory --

-- byte i of four bytes, with bits turned
abbrev turned-byte : (ℕ → ℕ) → ℕ → ℕ → ℕ → ℕ
turned-byte f addr mask i = byte_of (xor_of (little_word (window f addr 4)) mask) i

window-at : (f : ℕ → ℕ) (addr i : ℕ) → i < 4 → window f addr 4 i ≡ f (above addr i)
unfolding window
window-at f addr i h = ap (λ b. cond b (f (above addr i)) 0) (lt-ltb i 4 h)

byte-turned : (f : ℕ → ℕ) (addr mask i j : ℕ) → AreBytes f → i < 4 → j < 8
    → bit_at (turned-byte f addr mask i) j ≡ (bit_at (f (above addr i)) j + bit_at mask (8 * i + j)) % 2
unfolding xor_of
byte-turned f addr mask i j small h l =
    let word = little_word (window f addr 4) in
    byte-bit _ i j h l ∙ bit_at_xor word mask (8 * i + j)
    ∙ ap (λ b. (b + bit_at mask (8 * i + j)) % 2)
    (sym (byte-bit word i j h l)
    ∙ ap (λ n. bit_at n j) (byte-of-number (window f addr 4) (window-bytes f addr 4 small) i h ∙ window-at f addr i h))

offset-above : (start n a : ℕ) → start < 2 ^ 32 → is_in start n a ≡ true → above start (offset start a) ≡ a
offset-above start n a small within = grind (arith, nat_tests)

inside : (start n a : ℕ) → is_in start n a ≡ true → offset start a < n
inside start n a e = ltb-true (offset start a) n (and_parts (nat_lt a (2 ^ 32)) (nat_lt (offset start a) n) e).1

turn-memory : (shadows : ℕ → Shadow) (f g : ℕ → ℕ) → MemoriesAgree shadows f g → (addr mask : ℕ) → addr < 2 ^ 32
    → MemoriesAgree shadows (written f addr 4 (turned-byte f addr mask)) (written g addr 4 (turned-byte g addr mask))
unfolding written changed_in
turn-memory shadows f g m addr mask low = record {
  each = λ a. go a (is_in addr 4 a) refl;
  bits = m.bits;
  one = written-bytes f addr 4 (turned-byte f addr mask) m.one (byte-lt _);
  other = written-bytes g addr 4 (turned-byte g addr mask) m.other (byte-lt _);
}
  where
    go : (a : ℕ) (b : Bool) → is_in addr 4 a ≡ b
        → BytesAgree (shadows a) (cond b (turned-byte f addr mask (offset addr a)) (f a))
        (cond b (turned-byte g addr mask (offset addr a)) (g a))
    go a false e = m.each a
    go a true e = λ opened j l clear.
        let i = offset addr a in
        let within : i < 4 = inside addr 4 a e in
        let at = offset-above addr 4 a low e in
        let same : bit_at (f (above addr i)) j ≡ bit_at (g (above addr i)) j =
        subst (λ k. bit_at (f k) j ≡ bit_at (g k) j) (sym at) (m.each a opened j l clear) in
        byte-turned f addr mask i j m.one within l
        ∙ ap (λ b. (b + bit_at mask (8 * i + j)) % 2) same
        ∙ sym (byte-turned g addr mask i j m.other within l)

pub turn-both : (s t : State) (addr mask : ℕ) → addr < 2 ^ 32 → StatesAgree s t
    → StatesAgree (with s (written s.bytes addr 4 (turned-byte s.bytes addr mask)) s.core)
    (with t (written t.bytes addr 4 (turned-byte t.bytes addr mask)) t.core)
turn-both s t addr mask low d = record {
  memory = turn-memory s.core.shadow s.bytes t.bytes d.memory addr mask low;
  registers = d.registers;
  shadow = d.shadow;
  pc = d.pc;
  status = d.status;
  frames = d.frames;
  blocks = d.blocks;
  isa = d.isa;
  stack = d.stack;
  limits = d.limits;
  reserved = d.reserved;
  controls = d.controls;
  steps = d.steps;
  position = d.position;
  end_seen = d.end_seen;
  output = d.output;
  heap_calls = d.heap_calls;
  events = d.events;
}
