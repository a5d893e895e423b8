-- States that agree have the same reports.
use Rattle.std.proofs.Common.{◌≡◌, ℕ, zero, suc, ◌+◌, ◌%◌, ◌^◌, ◌<◌, ◌&&◌, not, Bool, true, false, cond, refl}
use Rattle.std.proofs.Common.{sym, ap, ◌∙◌, subst, inl, inr, arith, List, ◌++◌, length, Some, None}
use Rattle.std.proofs.Common.{nat_lt, ◌==◌}
use Rattle.std.specs.List.{flat_map}
use Rattle.std.proofs.Math.Path.{fun_ext}
use Rattle.std.proofs.lemmas.Bool.{and_parts, not-true}
use Rattle.definedness.specs.declared.Bits.{Bits}
use Rattle.shadow_memory.specs.Ranges.{little_word}
use Rattle.shadow_memory.specs.Shadows.{is_bad, holds_word}
use Rattle.shadow_memory.proofs.Ranging.{same-number}
use Rattle.leak_graph.specs.Paths.{HasPath}
use Rattle.leak_graph.specs.Leaks.{Links, HasKind, IsReachable, IsFound, IsLost, LostEdge, IsHeldBy}
use Rattle.leak_graph.specs.declared.leak_kind.LeakKind.{LeakKind}
use Rattle.leak_graph.specs.declared.leak_kind.LeakKind.TheVariants.{Definite, Indirect, Possible, Reachable}
use Rattle.leak_graph.proofs.Paths.{path_map, reached_map}
use Rattle.leak_search.specs.Words.{word_at}
use Rattle.leak_search.specs.Search.{Scene, IsRegisterRoot, RootPointsTo, links_in, AreRecordsIn}
use Rattle.leak_search.specs.Records.{scene_of, AreRecordsOf}
use Rattle.leak_search.specs.declared.record.LeakRecord.{LeakRecord}
use Rattle.guest_heap.specs.Steps.{live_list}
use Rattle.guest_elf.specs.declared.image.Image.{Image}
use Rattle.guest_machine.specs.State.{State}
use Rattle.guest_machine.specs.Registers.{register}
use Rattle.suppressions.specs.Rules.{Rule}
use Rattle.replay_report.specs.Report.{head_lines, report_text, IsReport}
use Rattle.replay_report.specs.LeakLines.{leak_section}
use Rattle.replay_report.specs.Filtering.{shown_groups, hidden_groups}
use Rattle.report_lines.specs.Lines.{step_line, state_line, input_line, output_line, group_lines, summary_line}
use Rattle.replay_report.specs.declared.options.Options.{Options}
use Rattle.clean_reports.specs.Agreement.{ValuesAgree, StatesAgree}
use Rattle.clean_reports.specs.Laws.{ReportsAgree}
use Rattle.clean_reports.proofs.Values.{same-value}
use Rattle.clean_reports.proofs.Memory.{not-bad, good-byte}
use Rattle.clean_reports.proofs.Registers.{held-of, register-agrees}

-- links with the same roots and edges give the same leak kinds --

-- each root and edge of one is one of the other
pub record LinksWithin (l k : Links) : Type 0 where
  pub start_root : (b : ℕ) → l.start_root b → k.start_root b
  pub root : (b : ℕ) → l.root b → k.root b
  pub start_edge : (x y : ℕ) → l.start_edge x y → k.start_edge x y
  pub edge : (x y : ℕ) → l.edge x y → k.edge x y

pub record LinksAlike (l k : Links) : Type 0 where
  pub count : l.count ≡ k.count
  pub to : LinksWithin l k
  pub back : LinksWithin k l

turned : (l k : Links) → LinksAlike l k → LinksAlike k l
turned l k a = record { count = sym a.count; to = a.back; back = a.to }

reachable-to : (l k : Links) → LinksAlike l k → (b : ℕ) → IsReachable l b → IsReachable k b
reachable-to l k a b r =
    reached_map l.start_root k.start_root l.start_edge k.start_edge a.to.start_root a.to.start_edge b r

found-to : (l k : Links) → LinksAlike l k → (b : ℕ) → IsFound l b → IsFound k b
found-to l k a b r = reached_map l.root k.root l.edge k.edge a.to.root a.to.edge b r

lost-to : (l k : Links) → LinksAlike l k → (b : ℕ) → IsLost l b → IsLost k b
lost-to l k a b lost = (subst (λ n. b < n) a.count lost.0, λ found. lost.1 (found-to k l (turned l k a) b found))

edge-to : (l k : Links) → LinksAlike l k → (x y : ℕ) → LostEdge l x y → LostEdge k x y
edge-to l k a x y e = (lost-to l k a x e.0, lost-to l k a y e.1, a.to.edge x y e.2)

path-to : (l k : Links) → LinksAlike l k → (x y : ℕ) → HasPath (LostEdge l) x y → HasPath (LostEdge k) x y
path-to l k a x y p = path_map (LostEdge l) (LostEdge k) (edge-to l k a) x y p

held-to : (l k : Links) → LinksAlike l k → (b c : ℕ) → IsHeldBy l b c → IsHeldBy k b c
held-to l k a b c h = (
  lost-to l k a c h.0,
  h.1,
  path-to l k a c b h.2,
  elim h.3 [ inl none ↦ inl (λ p. none (path-to k l (turned l k a) b c p)) | inr low ↦ inr low ],
)

kind-to : (l k : Links) → LinksAlike l k → (b : ℕ) (kind : LeakKind) → HasKind l b kind → HasKind k b kind
kind-to l k a b Reachable h = reachable-to l k a b h
kind-to l k a b Possible h = (found-to l k a b h.0, λ r. h.1 (reachable-to k l (turned l k a) b r))
kind-to l k a b Indirect h = (lost-to l k a b h.0, (h.1.0, held-to l k a b h.1.0 h.1.1))
kind-to l k a b Definite h = (lost-to l k a b h.0, λ c held. h.1 c (held-to k l (turned l k a) b c held))

-- the leak search only looks at defined words and registers --

four : (p q r t : Bool) → (((p && q) && r) && t) ≡ true → (p ≡ true) × (q ≡ true) × (r ≡ true) × (t ≡ true)
four p q r t e =
    let one = and_parts ((p && q) && r) t e in
    let two = and_parts (p && q) r one.0 in
    let three = and_parts p q two.0 in
    (three.0, three.1, two.1, one.1)

module _ (s t : State) (d : StatesAgree s t) where
  words-in : (w : ℕ) → word_at s.bytes s.core.shadow w ≡ word_at t.bytes s.core.shadow w
  unfolding word_at
  words-in w = go (nat_lt w (2 ^ 32) && (w % 4 == 0 && holds_word s.core.shadow w)) refl
    where
      good : (a : ℕ) → is_bad true (s.core.shadow a) ≡ false → s.bytes a ≡ t.bytes a
      good a e = good-byte s.core.shadow s.bytes t.bytes d.memory a (not-bad (s.core.shadow a) e)

      go : (b : Bool) → (nat_lt w (2 ^ 32) && (w % 4 == 0 && holds_word s.core.shadow w)) ≡ b
          → cond b (Some (little_word (λ i. s.bytes (w + i)))) None
          ≡ cond b (Some (little_word (λ i. t.bytes (w + i)))) None
      go false e = refl
      go true e =
          let bad = λ (a : ℕ). is_bad true (s.core.shadow a) in
          let rest = (and_parts (nat_lt w (2 ^ 32)) (w % 4 == 0 && holds_word s.core.shadow w) e).1 in
          let holds = (and_parts (w % 4 == 0) (holds_word s.core.shadow w) rest).1 in
          let p = four (not (bad w)) (not (bad (w + 1))) (not (bad (w + 2))) (not (bad (w + 3))) holds in
          ap Some (same-number (λ i. s.bytes (w + i)) (λ i. t.bytes (w + i)) (λ i h. at i h
          (good w (not-true (bad w) p.0)) (good (w + 1) (not-true (bad (w + 1)) p.1))
          (good (w + 2) (not-true (bad (w + 2)) p.2)) (good (w + 3) (not-true (bad (w + 3)) p.3))))
        where
          at : (i : ℕ) → i < 4 → s.bytes w ≡ t.bytes w → s.bytes (w + 1) ≡ t.bytes (w + 1)
              → s.bytes (w + 2) ≡ t.bytes (w + 2) → s.bytes (w + 3) ≡ t.bytes (w + 3)
              → s.bytes (w + i) ≡ t.bytes (w + i)
          at zero h x y z u = let e : w + 0 ≡ w = omega arith in ap s.bytes e ∙ x ∙ sym (ap t.bytes e)
          at (suc zero) h x y z u = y
          at (suc (suc zero)) h x y z u = z
          at (suc (suc (suc zero))) h x y z u = u
          at (suc (suc (suc (suc i)))) h x y z u = absurd (omega (arith, h))

  words-same : word_at s.bytes s.core.shadow ≡ word_at t.bytes t.core.shadow
  words-same = fun_ext words-in ∙ ap (word_at t.bytes) d.shadow

  registers-agree : (r : ℕ) → ValuesAgree (register s.core r) (register t.core r)
  unfolding register
  registers-agree r =
      register-agrees s.core (held-of t.core) (record { registers = d.registers; controls = d.controls }) r

  register-root : (value : ℕ) → IsRegisterRoot (register s.core) value → IsRegisterRoot (register t.core) value
  register-root value (r, low, high, undef, is) =
      let v = registers-agree r in
      (r, low, high, sym v.undef ∙ undef, sym (same-value (register s.core r) (register t.core r) v undef) ∙ is)

  register-back : (value : ℕ) → IsRegisterRoot (register t.core) value → IsRegisterRoot (register s.core) value
  register-back value (r, low, high, undef, is) =
      let v = registers-agree r in
      let known = v.undef ∙ undef in
      (r, low, high, known, same-value (register s.core r) (register t.core r) v known ∙ is)

-- two scenes that only differ in registers, with the same roots
scene-with : Scene → (ℕ → Bits) → Scene
scene-with scene registers = record scene { register = registers }

root-to : (scene : Scene) (x y : ℕ → Bits) → ((value : ℕ) → IsRegisterRoot x value → IsRegisterRoot y value)
    → (starts : Bool) (b : ℕ) → RootPointsTo (scene-with scene x) starts b → RootPointsTo (scene-with scene y) starts b
unfolding scene-with
root-to scene x y to starts b (value, root, points) =
    (value, elim root [ inl r ↦ inl (to value r) | inr w ↦ inr w ], points)

links-alike : (scene : Scene) (x y : ℕ → Bits) → ((value : ℕ) → IsRegisterRoot x value → IsRegisterRoot y value)
    → ((value : ℕ) → IsRegisterRoot y value → IsRegisterRoot x value)
    → LinksAlike (links_in (scene-with scene x)) (links_in (scene-with scene y))
unfolding links_in scene-with
links-alike scene x y to back = record {
  count = refl;
  to = record {
    start_root = root-to scene x y to true;
    root = root-to scene x y to false;
    start_edge = λ a b e. e;
    edge = λ a b e. e;
  };
  back = record {
    start_root = root-to scene y x back true;
    root = root-to scene y x back false;
    start_edge = λ a b e. e;
    edge = λ a b e. e;
  };
}

records-with : (scene : Scene) (x y : ℕ → Bits) → ((value : ℕ) → IsRegisterRoot x value → IsRegisterRoot y value)
    → ((value : ℕ) → IsRegisterRoot y value → IsRegisterRoot x value) → (records : List LeakRecord)
    → AreRecordsIn (scene-with scene x) records → AreRecordsIn (scene-with scene y) records
unfolding scene-with
records-with scene x y to back records r = record {
  len = r.len;
  each = λ k entry at. (let e = r.each k entry at in record {
    block = e.block;
    at = e.at;
    start = e.start;
    size = e.size;
    trace = e.trace;
    kind = kind-to (links_in (record scene { register = x })) (links_in (record scene { register = y }))
        (links-alike scene x y to back) k entry.kind e.kind;
  });
}

records-agree : (s t : State) (records : List LeakRecord) → StatesAgree s t → AreRecordsOf s records
    → AreRecordsOf t records
unfolding AreRecordsOf scene-with
records-agree s t records d r =
    let scene = scene_of s in
    let P : Scene → Type 0 = λ x. AreRecordsIn x records in
    let middle : P (scene-with scene (register t.core)) =
    records-with scene (register s.core) (register t.core) (register-root s t d) (register-back s t d) records r in
    let same : scene-with scene (register t.core) ≡ scene_of t =
    λ i. record {
      word = words-same s t d i;
      register = register t.core;
      blocks = live_list (d.blocks i);
    } in
    subst P same middle

texts-agree : (s t : State) (image : Image) (rules : List Rule) (options : Options) (step input_len : ℕ)
    (records : List LeakRecord) → StatesAgree s t
    → report_text s image rules options step input_len records
    ≡ report_text t image rules options step input_len records
unfolding report_text head_lines
texts-agree s t image rules options step input_len records d =
    λ i.
    let shown = shown_groups rules image options.callers (d.events i) in
    (step_line step ++ state_line (d.status i) (d.pc i) ++ input_line (d.position i) input_len
    ++ output_line (length (d.output i)))
    ++ flat_map (group_lines image options.callers) shown
    ++ leak_section image rules options records
    ++ summary_line shown (hidden_groups rules image options.callers (d.events i))

pub reports-agree : ReportsAgree
unfolding IsReport
reports-agree s t image rules options step input_len text d (records, are, is) =
    (records, records-agree s t records d are, is ∙ texts-agree s t image rules options step input_len records d)
