-- What lists of pointers gain.
use Rattle.std.proofs.Common.{◌≡◌, ℕ, ◌+◌, ◌<◌, ◌≤◌, ◌%◌, ◌^◌, ◌⊎◌, inl, inr, List, [], ◌∷◌, ◌++◌, Bool, Option, None}
use Rattle.std.proofs.Common.{Some, length, set, arith, refl, sym, ◌∙◌, subst, ap, slice_get}
use Rattle.std.proofs.lemmas.Bool.{cases_lt, cases_eq}
use Rattle.std.proofs.lemmas.List.{get_or-set_same, get_or-set_other, length-set}
use Rattle.std.proofs.lemmas.List.Elements.{Contains-push, Contains-push_cases, Contains-append_left}
use Rattle.std.proofs.lemmas.Option.{same_Some, none-some, slice_get-get_or, slice_get_within, slice_get_past}
use Rattle.std.specs.declared.vec.Vec.{Vec}
use Rattle.std.specs.declared.alloc.Global.{Global}
use Rattle.call_stacks.specs.declared.block.Block.{Block}
use Rattle.definedness.specs.declared.Bits.{Bits}
use Rattle.leak_graph.specs.declared.graph.Pointer.{Pointer}
use Rattle.leak_graph.specs.Graphs.{LeadsTo, HasPointer}
use Rattle.leak_search.specs.Pointing.{PointsTo, IsInNoBlock, IsWordIn}
use Rattle.leak_search.specs.Gathering.{Finds, Gains, EdgesGain, RootBelow, EdgeBelow, RootAny, EdgeAny, RegisterBelow}

pub gains_none : (target : Bool → ℕ → Type 0) (pointers : List Pointer)
    → ((starts : Bool) (b : ℕ) → target starts b → ⊥) → Gains target pointers pointers
gains_none target pointers none = record {
  keeps = λ starts b h. h;
  gains = λ starts b t. absurd (none starts b t);
  sound = λ starts b h. inl h;
}

pub gains_then : (first second : Bool → ℕ → Type 0) (old mid new : List Pointer) → Gains first old mid
    → Gains second mid new
    → Gains (λ starts b. first starts b ⊎ second starts b) old new
gains_then first second old mid new p q = record {
  keeps = λ starts b h. q.keeps starts b (p.keeps starts b h);
  gains = λ starts b t. elim t [ inl f ↦ q.keeps starts b (p.gains starts b f) | inr s ↦ q.gains starts b s ];
  sound = λ starts b h.
      elim (q.sound starts b h) [
        | inl m ↦ elim (p.sound starts b m) [ inl o ↦ inl o | inr f ↦ inr (inl f) ]
        | inr s ↦ inr (inr s)
      ];
}

pub gains_as : (target other : Bool → ℕ → Type 0) (old new : List Pointer)
    → ((starts : Bool) (b : ℕ) → target starts b → other starts b)
    → ((starts : Bool) (b : ℕ) → other starts b → target starts b)
    → Gains target old new → Gains other old new
gains_as target other old new to back p = record {
  keeps = p.keeps;
  gains = λ starts b t. p.gains starts b (back starts b t);
  sound = λ starts b h. elim (p.sound starts b h) [ inl o ↦ inl o | inr t ↦ inr (to starts b t) ];
}

pub gains_push : (pointers : List Pointer) (pointer : Pointer)
    → Gains (λ starts b. LeadsTo starts pointer b) pointers (pointers ++ pointer ∷ [])
gains_push pointers pointer = record {
  keeps = λ starts b h. (h.0, Contains-append_left pointers (pointer ∷ []) h.0 h.1, h.2);
  gains = λ starts b t. (pointer, Contains-push pointers pointer, t);
  sound = λ starts b h.
      elim (Contains-push_cases pointers pointer h.0 h.1) [
        | inl o ↦ inl (h.0, o, h.2)
        | inr e ↦ inr (subst (λ (p : Pointer). LeadsTo starts p b) (sym e) h.2)
      ];
}

pub edges_none : (target : Bool → ℕ → ℕ → Type 0) (edges : List (Vec Pointer Global))
    → ((starts : Bool) (a b : ℕ) → target starts a b → ⊥) → EdgesGain target edges edges
edges_none target edges none = record {
  keeps = λ starts a b h. h;
  gains = λ starts a b t. absurd (none starts a b t);
  sound = λ starts a b h. inl h;
}

pub edges_then : (first second : Bool → ℕ → ℕ → Type 0) (old mid new : List (Vec Pointer Global))
    → EdgesGain first old mid → EdgesGain second mid new
    → EdgesGain (λ starts a b. first starts a b ⊎ second starts a b) old new
edges_then first second old mid new p q = record {
  keeps = λ starts a b h. q.keeps starts a b (p.keeps starts a b h);
  gains = λ starts a b t. elim t [ inl f ↦ q.keeps starts a b (p.gains starts a b f) | inr s ↦ q.gains starts a b s ];
  sound = λ starts a b h.
      elim (q.sound starts a b h) [
        | inl m ↦ elim (p.sound starts a b m) [ inl o ↦ inl o | inr f ↦ inr (inl f) ]
        | inr s ↦ inr (inr s)
      ];
}

pub edges_as : (target other : Bool → ℕ → ℕ → Type 0) (old new : List (Vec Pointer Global))
    → ((starts : Bool) (a b : ℕ) → target starts a b → other starts a b)
    → ((starts : Bool) (a b : ℕ) → other starts a b → target starts a b)
    → EdgesGain target old new → EdgesGain other old new
edges_as target other old new to back p = record {
  keeps = p.keeps;
  gains = λ starts a b t. p.gains starts a b (back starts a b t);
  sound = λ starts a b h. elim (p.sound starts a b h) [ inl o ↦ inl o | inr t ↦ inr (to starts a b t) ];
}

-- one row of the edges has another pointer
row_same : (edges : List (Vec Pointer Global)) (block : ℕ) (row : Vec Pointer Global) → block < length edges
    → slice_get (set edges block row) block ≡ Some row
row_same edges block row h =
    let within : block < length (set edges block row) = simp length-set h in
    slice_get-get_or (set edges block row) block row within ∙ ap Some (get_or-set_same edges block row row h)

row_other : (edges : List (Vec Pointer Global)) (block a : ℕ) (row : Vec Pointer Global) → (a ≡ block → ⊥)
    → slice_get (set edges block row) a ≡ slice_get edges a
row_other edges block a row ne =
    elim (cases_lt a (length edges)) [
      | inl less ↦
          let within : a < length (set edges block row) = simp length-set less in
          slice_get-get_or (set edges block row) a row within ∙ ap Some (get_or-set_other edges block a row row ne)
          ∙ sym (slice_get-get_or edges a row less)
      | inr past ↦
          let over : length (set edges block row) ≤ a = simp length-set past in
          slice_get_past (set edges block row) a over ∙ sym (slice_get_past edges a past)
    ]

pub edges_push : (edges : List (Vec Pointer Global)) (block : ℕ) (before after : Vec Pointer Global) (pointer : Pointer)
    → block < length edges
    → slice_get edges block ≡ Some before → after.items ≡ before.items ++ pointer ∷ []
    → EdgesGain (λ starts a b. (block ≡ a) × LeadsTo starts pointer b) edges (set edges block after)
edges_push edges block before after pointer h at e =
    let g = gains_push before.items pointer in
    let same : slice_get (set edges block after) block ≡ Some after = row_same edges block after h in
    record {
      keeps = λ starts a b has.
          elim (cases_eq a block) [
            | inl eq ↦
                let row : has.0 ≡ before = same_Some has.0 before (sym has.1 ∙ ap (λ x. slice_get edges x) eq ∙ at) in
                let old : HasPointer starts before.items b = subst
                (λ (r : Vec Pointer Global). HasPointer starts r.items b) row has.2 in (
                  after,
                  ap (λ x. slice_get (set edges block after) x) eq
                      ∙ same,
                  subst (λ (ps : List Pointer). HasPointer starts ps b) (sym e) (g.keeps starts b old),
                )
            | inr ne ↦ (has.0, row_other edges block a after ne ∙ has.1, has.2)
          ];
      gains = λ starts a b t. (
        after,
        ap (λ x. slice_get (set edges block after) x) (sym t.0)
            ∙ same,
        subst (λ (ps : List Pointer). HasPointer starts ps b) (sym e) (g.gains starts b t.1),
      );
      sound = λ starts a b has.
          elim (cases_eq a block) [
            | inl eq ↦
                let row : has.0 ≡ after = same_Some has.0 after (sym has.1
                ∙ ap (λ x. slice_get (set edges block after) x) eq ∙ same) in
                let new : HasPointer starts (before.items ++ pointer ∷ []) b =
                subst (λ (ps : List Pointer). HasPointer starts ps b) e
                (subst (λ (r : Vec Pointer Global). HasPointer starts r.items b) row has.2) in
                elim (g.sound starts b new) [
                  | inl o ↦ inl (before, ap (λ x. slice_get edges x) eq ∙ at, o)
                  | inr t ↦ inr (sym eq, t)
                ]
            | inr ne ↦ inl (has.0, sym (row_other edges block a after ne) ∙ has.1, has.2)
          ];
    }

-- no word lies below address 0
pub roots_begin : (read : ℕ → Option ℕ) (blocks : List Block) (pointers : List Pointer)
    → Gains (RootBelow read blocks 0) pointers pointers
roots_begin read blocks pointers =
    gains_none (RootBelow read blocks 0) pointers (λ starts b r. (let low = r.2 in omega arith))

pub edges_begin : (read : ℕ → Option ℕ) (blocks : List Block) (edges : List (Vec Pointer Global))
    → EdgesGain (EdgeBelow read blocks 0) edges edges
edges_begin read blocks edges =
    edges_none (EdgeBelow read blocks 0) edges (λ starts a b r. (let low = r.2 in omega arith))

-- which words lie below the word after this one
word_split : (read : ℕ → Option ℕ) (from word value next : ℕ) → read word ≡ Some value → word % 4 ≡ 0 → next ≤ word + 4
    → ((v : ℕ) → from ≤ v → v < word → read v ≡ None)
    → ((w v : ℕ) → read w ≡ Some v → (w % 4 ≡ 0) × (w < 2 ^ 32))
    → (w v : ℕ) → w < next → read w ≡ Some v → (w < from) ⊎ ((w ≡ word) × (v ≡ value))
word_split read from word value next here aligned le least words w v less at =
    elim (cases_lt w from) [
      | inl before ↦ inl before
      | inr since ↦ elim (cases_lt w word) [
        | inl under ↦ absurd (none-some v (sym (least w since under) ∙ at))
        | inr up ↦
            let multiple = (words w v at).0 in
            let same : w ≡ word = omega arith in
            inr (same, same_Some v value (sym at ∙ ap (λ x. read x) same ∙ here))
      ]
    ]

pub roots_step : (read : ℕ → Option ℕ) (blocks : List Block) (from word value next : ℕ) (old mid new : List Pointer)
    → read word ≡ Some value → word % 4 ≡ 0 → from ≤ word → word < next → next ≤ word + 4
    → ((v : ℕ) → from ≤ v → v < word → read v ≡ None)
    → ((w v : ℕ) → read w ≡ Some v → (w % 4 ≡ 0) × (w < 2 ^ 32))
    → Gains (RootBelow read blocks from) old mid
    → Gains (λ starts b. IsInNoBlock blocks word × PointsTo starts blocks value b) mid new
    → Gains (RootBelow read blocks next) old new
roots_step read blocks from word value next old mid new here aligned low high le least words p q =
    gains_as (λ starts b. RootBelow read blocks from starts b
    ⊎ (IsInNoBlock blocks word × PointsTo starts blocks value b)) (RootBelow read blocks next) old new
    (λ starts b t. elim t [
      | inl r ↦ (r.0, r.1, (let less = r.2 in omega arith), r.3, r.4, r.5)
      | inr n ↦ (word, value, high, here, n.0, n.1)
    ])
    (λ starts b r. elim (word_split read from word value next here aligned le least words r.0 r.1 r.2 r.3) [
      | inl before ↦ inl (r.0, r.1, before, r.3, r.4, r.5)
      | inr same ↦ inr (
        subst (λ (x : ℕ). IsInNoBlock blocks x) same.0 r.4,
        subst (λ (x : ℕ). PointsTo starts blocks x b) same.1 r.5,
      )
    ])
    (gains_then (RootBelow read blocks from) (λ starts b. IsInNoBlock blocks word × PointsTo starts blocks value b) old
    mid new p q)

pub edges_step : (read : ℕ → Option ℕ) (blocks : List Block) (from word value next : ℕ)
    (old mid new : List (Vec Pointer Global))
    → read word ≡ Some value → word % 4 ≡ 0 → from ≤ word → word < next → next ≤ word + 4
    → ((v : ℕ) → from ≤ v → v < word → read v ≡ None)
    → ((w v : ℕ) → read w ≡ Some v → (w % 4 ≡ 0) × (w < 2 ^ 32))
    → EdgesGain (EdgeBelow read blocks from) old mid
    → EdgesGain (λ starts a b. IsWordIn blocks word a × PointsTo starts blocks value b) mid new
    → EdgesGain (EdgeBelow read blocks next) old new
edges_step read blocks from word value next old mid new here aligned low high le least words p q =
    edges_as (λ starts a b. EdgeBelow read blocks from starts a b
    ⊎ (IsWordIn blocks word a × PointsTo starts blocks value b)) (EdgeBelow read blocks next) old new
    (λ starts a b t. elim t [
      | inl r ↦ (r.0, r.1, (let less = r.2 in omega arith), r.3, r.4, r.5)
      | inr n ↦ (word, value, high, here, n.0, n.1)
    ])
    (λ starts a b r. elim (word_split read from word value next here aligned le least words r.0 r.1 r.2 r.3) [
      | inl before ↦ inl (r.0, r.1, before, r.3, r.4, r.5)
      | inr same ↦ inr (
        subst (λ (x : ℕ). IsWordIn blocks x a) same.0 r.4,
        subst (λ (x : ℕ). PointsTo starts blocks x b) same.1 r.5,
      )
    ])
    (edges_then (EdgeBelow read blocks from) (λ starts a b. IsWordIn blocks word a × PointsTo starts blocks value b) old
    mid new p q)

none_where : (o : Option ℕ) → ((x : ℕ) → o ≡ Some x → ⊥) → o ≡ None
none_where None h = refl
none_where (Some x) h = absurd (h x refl)

pub top_none : (read : ℕ → Option ℕ) → ((w v : ℕ) → read w ≡ Some v → (w % 4 ≡ 0) × (w < 2 ^ 32))
    → (v : ℕ) → 2 ^ 32 ≤ v → read v ≡ None
top_none read words v high = none_where (read v) (λ x at. (let low = (words v x at).1 in omega arith))

under_all : (read : ℕ → Option ℕ) (from w value : ℕ) → ((v : ℕ) → from ≤ v → read v ≡ None) → read w ≡ Some value
    → w < from
under_all read from w value none at =
    elim (cases_lt w from) [ inl less ↦ less | inr since ↦ absurd (none-some value (sym (none w since) ∙ at)) ]

-- no word from here on: all words lie below
pub roots_all : (read : ℕ → Option ℕ) (blocks : List Block) (from : ℕ) (old new : List Pointer)
    → ((v : ℕ) → from ≤ v → read v ≡ None)
    → Gains (RootBelow read blocks from) old new → Gains (RootAny read blocks) old new
roots_all read blocks from old new none p =
    gains_as (RootBelow read blocks from) (RootAny read blocks) old new
    (λ starts b r. (r.1, (r.0, r.3, r.4), r.5))
    (λ starts b r. (r.1.0, r.0, under_all read from r.1.0 r.0 none r.1.1, r.1.1, r.1.2, r.2))
    p

pub edges_all : (read : ℕ → Option ℕ) (blocks : List Block) (from : ℕ) (old new : List (Vec Pointer Global))
    → ((v : ℕ) → from ≤ v → read v ≡ None)
    → EdgesGain (EdgeBelow read blocks from) old new → EdgesGain (EdgeAny read blocks) old new
edges_all read blocks from old new none p =
    edges_as (EdgeBelow read blocks from) (EdgeAny read blocks) old new
    (λ starts a b r. (r.1, (r.0, r.3, r.4), r.5))
    (λ starts a b r. (r.1.0, r.0, under_all read from r.1.0 r.0 none r.1.1, r.1.1, r.1.2, r.2))
    p

-- another register
pub registers_step : (register : ℕ → Bits) (blocks : List Block) (number : ℕ) (old mid new : List Pointer)
    → 1 ≤ number
    → Gains (RegisterBelow register blocks number) old mid
    → Gains (λ starts b. ((register number).undef ≡ 0) × PointsTo starts blocks (register number).value b) mid new
    → Gains (RegisterBelow register blocks (number + 1)) old new
registers_step register blocks number old mid new one p q =
    gains_as (λ starts b. RegisterBelow register blocks number starts b
    ⊎ (((register number).undef ≡ 0) × PointsTo starts blocks (register number).value b))
    (RegisterBelow register blocks (number + 1)) old new
    (λ starts b t. elim t [
      | inl r ↦ (r.0, r.1, (let less = r.2 in omega arith), r.3, r.4)
      | inr n ↦ (number, one, omega arith, n.0, n.1)
    ])
    (λ starts b r. elim (cases_lt r.0 number) [
      | inl less ↦ inl (r.0, r.1, less, r.3, r.4)
      | inr more ↦
          let less = r.2 in
          let same : r.0 ≡ number = omega arith in
          inr (
            ap (λ x. (register x).undef) (sym same)
                ∙ r.3,
            subst (λ (x : ℕ). PointsTo starts blocks (register x).value b) same r.4,
          )
    ])
    (gains_then (RegisterBelow register blocks number) (λ starts b. ((register number).undef ≡ 0)
    × PointsTo starts blocks (register number).value b) old mid new p q)

pub registers_begin : (register : ℕ → Bits) (blocks : List Block) (pointers : List Pointer)
    → Gains (RegisterBelow register blocks 1) pointers pointers
registers_begin register blocks pointers =
    gains_none (RegisterBelow register blocks 1) pointers (λ starts b r. (let low = r.1 in let high = r.2 in
    omega arith))

-- what a found pointer adds, where the fact beside it holds
pub gains_found : (blocks : List Block) (value : ℕ) (pointer : Pointer) (holds : Type 0) (pointers : List Pointer)
    → Finds blocks value pointer → holds
    → Gains (λ starts b. holds × PointsTo starts blocks value b) pointers (pointers ++ pointer ∷ [])
gains_found blocks value pointer holds pointers f h =
    gains_as (λ starts b. LeadsTo starts pointer b) (λ starts b. holds × PointsTo starts blocks value b) pointers
    (pointers ++ pointer ∷ [])
    (λ starts b t. (h, f.to starts b t)) (λ starts b t. f.back starts b t.1) (gains_push pointers pointer)

pub edges_found : (blocks : List Block) (word value block : ℕ) (pointer : Pointer) (old new : List (Vec Pointer Global))
    → Finds blocks value pointer
    → IsWordIn blocks word block → ((a : ℕ) → IsWordIn blocks word a → block ≡ a)
    → EdgesGain (λ starts a b. (block ≡ a) × LeadsTo starts pointer b) old new
    → EdgesGain (λ starts a b. IsWordIn blocks word a × PointsTo starts blocks value b) old new
edges_found blocks word value block pointer old new f inside only p =
    edges_as (λ starts a b. (block ≡ a) × LeadsTo starts pointer b) (λ starts a b. IsWordIn blocks word a
    × PointsTo starts blocks value b) old new
    (λ starts a b t. (subst (λ (x : ℕ). IsWordIn blocks word x) t.0 inside, f.to starts b t.1))
    (λ starts a b t. (only a t.0, f.back starts b t.1))
    p

pub word_within : (blocks : List Block) (word block n : ℕ) → IsWordIn blocks word block → n ≡ length blocks → block < n
word_within blocks word block n inside e = (let h = slice_get_within blocks block inside.0 inside.1 in omega arith)
