-- An element of braces has come: the next is worked out, or the set is made of the numbers.
use Rattle.std.specs.Prelude.{ℕ, zero, suc, ◌+◌, ◌-◌, ◌≤◌, ◌<◌, true, List, [], ◌∷◌, ◌++◌, ◌≡◌, refl, length, get_or, take, drop, set as store, Ok}
use Rattle.std.proofs.lemmas.Bool.{false≢true}
use Rattle.std.proofs.Math.Option.{none}
use Rattle.std.proofs.Common.{sym, ap, ap₂, ◌∙◌, subst, arith, add-zero, length-set, drop-set-lt}
use Rattle.node.specs.Result.{◌>>=◌}
use Rattle.node.proofs.ResultLaws.{bind_at}
use Rattle.node.specs.Returned.{Returned}
use Rattle.machine.specs.declared.Move.TheVariants.{Next}
use Rattle.language.specs.Limits.{max_tokens, max_number}
use Rattle.language.specs.Tokens.{tokens}
use Rattle.language.specs.Tree.{Expr, Empty, Element}
use Rattle.language.specs.Expansion.{Context}
use Rattle.language.specs.DeclaredNames.{Port}
use Rattle.language.specs.Sets.{insert}
use Rattle.language.specs.Values.{Number, Set, set, limited, value}
use Rattle.language.proofs.Laws.Basics.Lists.{All}
use Rattle.entries.specs.Kinds as Kind
use Rattle.entries.specs.Flat.{flat}
use Rattle.entries.specs.Stored.{At}
use Rattle.name_values.specs.World.{World}
use Rattle.operands.specs.Entries.{kind_at, place_at}
use Rattle.operands.specs.ClassLaws.{kind_of_lem}
use Rattle.operands.specs.Working.{Source}
use Rattle.memory_sets.specs.PlaceLaws.{outside-both}
use Rattle.memory_sets.specs.PlacedLaws.{set_of_sane}
use Rattle.memory_sets.specs.Sorting.{set_of, Numbers, SortedAt}
use Rattle.machine.specs.Fields.{entry_field, base_field, count_field, value_field}
use Rattle.machine.specs.Phases as Phase
use Rattle.machine.specs.Came.{Evaluate, Came, Worth, worth, works}
use Rattle.machine.specs.Frames.{Elements, apply, inserts}
use Rattle.machine.specs.Realm.{OperandIn}
use Rattle.machine.specs.Memory.{frame_words, set_words, Slotted, nowhere, value as among, Framed}
use Rattle.machine.specs.MemoryLaws.{held_none, slotted_kept, agree-from}
use Rattle.machine.specs.NoteLaws.{noted_kept, lasting_kept}
use Rattle.machine.specs.Cost.{price, price_some, price-suc, times_none, weight}
use Rattle.machine.specs.Holding.{forms_of}
use Rattle.machine.specs.Telling.{is_number}
use Rattle.machine.specs.TableLaws.{laid_as}
use Rattle.machine.specs.States.{written, Topped, Takes}
use Rattle.machine.specs.ComeLaws.{came-number}
use Rattle.machine.specs.FrameViews.{by_phase}
use Rattle.machine.specs.TakeLaws.{words, entry_word_lem, base_word, count_word, value-word, goes, top-phase, top_as}
use Rattle.machine.specs.ContractLaws.{takes-next}
use Rattle.machine.specs.OperandLaws.{topped-entry}
use Rattle.machine.specs.declared.Machine.{Machine}
use Rattle.machine.specs.Entering.{Waiting}
use Rattle.value_steps.specs.Moves.{onward}
use Rattle.set_steps.specs.MakingLaws.{makes}
use Rattle.set_steps.specs.Making.{made}
use Rattle.set_steps.specs.Braces.{element_at, Elementary}
use Rattle.set_steps.specs.InnerLaws.{element-small, Further, nothing, another, further, inner, brace_same, some_behind, none_behind}
use Rattle.set_steps.specs.PutLaws.{inserts-more, inserts-all, spaced, all_small, one_more, put-below, put_held, put-outside, put-numbers, put-elements}

-- the frame's words as the code reads them
pub record Fitting (mem : List ℕ) (m : Machine) (base count k : ℕ) : Type 0 where
  pub room : base + count + set_words < m.frames
  pub inside : m.frames + frame_words ≤ length mem
  pub place : k < max_tokens

pub element_few : {s : Source} {mem : List ℕ} {m : Machine} → Topped s mem m → {j i : ℕ} → j ≡ get_or mem (m.frames + entry_field) 0 → i ≡ element_at s.work (j - 1) → i < max_tokens
element_few {s} t {j} ej ei = let f = (topped-entry t).few in let l = element-small s.work (j - 1) in omega arith

-- an element has come
module _ {s : Source} {mem : List ℕ} {m : Machine} (w : Waiting mem m Phase.elements) where
  pub element-fits : Topped s mem m → Fitting mem m (get_or mem (m.frames + base_field) 0) (get_or mem (m.frames + count_field) 0) (get_or mem (m.frames + value_field) 0)
  element-fits t =
      let v = by_phase t.top.frame Phase.elements (top-phase t.top ∙ w.phase) in
      let h = top_as t.top v.4 in
      let b = base_word h in
      let c = count_word h in
      let k = value-word h in
      let n = h.at.counted in
      let ro = h.at.room in
      let g = h.at.holds.room in
      let so = h.at.some in
      let en = h.at.entry in
      let f = h.at.waits.few in
      record { room = omega arith; inside = h.at.inside; place = omega arith }

  pub element_elementary : Topped s mem m → {j : ℕ} → j ≡ get_or mem (m.frames + entry_field) 0 → kind_at s.work (j - 1) ≡ Kind.element → Elementary s.work (j - 1)
  element_elementary t {j} ej q =
      let v = by_phase t.top.frame Phase.elements (top-phase t.top ∙ w.phase) in
      let h = top_as t.top v.4 in
      let r = h.at.waits in
      let e : j ≡ (words h).entry = ej ∙ entry_word_lem h in
      let en = (topped-entry t).few in
      by (words h).entry (further v.2 r.rest.known.proper) r.last (subst (λ (i : ℕ). OperandIn s t.realm.W t.realm.ports true h.footing.env v.1 (i - 1) v.2) (sym e) r.rest)
      (subst (λ (i : ℕ). kind_at s.work (i - 1) ≡ Kind.element) e q) (omega arith)
    where
      by : {W : World} {ps : List Port} {env : List ℕ} {c : Context} {es : Expr} (i : ℕ) → Further es → (es ≡ Empty → kind_at s.work (i - 1) ≡ Kind.element → ⊥)
          → OperandIn s W ps true env c (j - 1) es → kind_at s.work (i - 1) ≡ Kind.element → j < max_tokens → Elementary s.work (j - 1)
      by i nothing l p z f = absurd (l refl z)
      by i (another a b) l p z f = let y = inner a b p in let u = y.under in record { some = omega arith; few = omega arith; long = t.lent.work; inside = y.inside }

-- the last element: the clause as its frame has it
last-same : (p : ℕ) (c : Context) (ns : List ℕ) (n : ℕ) → apply (Elements p c Empty ns) (Worth (Number n)) ≡ (limited p (set_of (ns ++ (n ∷ []))) >>= λ y. worth (Set y))
unfolding ◌>>=◌
last-same p c ns n = ap (λ (l : List ℕ). limited p l >>= λ y. worth (Set y)) (inserts-more ns n [] ∙ inserts-all (ns ++ (n ∷ [])))

-- one that another follows
next-same : (p : ℕ) (c : Context) (a b : Expr) (ns : List ℕ) (n : ℕ) → apply (Elements p c (Element a b) ns) (Worth (Number n)) ≡ (works Evaluate c a >>= apply (Elements p c b (ns ++ (n ∷ []))))
next-same p c a b ns n = bind_at n (λ i. value c.values (Element a b) >>= set >>= λ l. limited p (inserts ns (insert i l)) >>= λ y. worth (Set y))
    ∙ brace_same (value c.values a) (value c.values b >>= set) (λ l. limited p (inserts ns (insert n l)) >>= λ y. worth (Set y))
    (λ j l. limited p (inserts (ns ++ (n ∷ [])) (insert j l)) >>= λ y. worth (Set y)) (λ j l. ap (λ (u : List ℕ). limited p u >>= λ y. worth (Set y)) (inserts-more ns n (insert j l)))

brace_less : (i j c d : ℕ) {p : ℕ} → 0 < j → i ≡ j - 1 → p ≡ Phase.elements → weight Phase.elements i c + price i < weight p j d
brace_less i zero c d l e q = absurd (omega arith)
brace_less i (suc j) c d l e q =
    let a = price-suc j in
    let b = price_some j in
    let u = times_none j in
    let v = times_none (suc j) in
    let z : i ≡ j = omega arith in
    rw (q, z) (omega arith)

module _ {s : Source} {mem : List ℕ} {m : Machine} (w : Waiting mem m Phase.elements) (e : m.mode ≡ is_number) {j base count k : ℕ} (ej : j ≡ get_or mem (m.frames + entry_field) 0) (eb : base ≡ get_or mem (m.frames + base_field) 0)
    (ec : count ≡ get_or mem (m.frames + count_field) 0) (ek : k ≡ get_or mem (m.frames + value_field) 0) where
  pub element-numbers : Topped s mem m → Numbers (store mem (base + count) m.value) base (count + 1)
  element-numbers t =
      let v = by_phase t.top.frame Phase.elements (top-phase t.top ∙ w.phase) in
      let h = top_as t.top v.4 in
      let n = came-number t.realm t.began mem m h.came h.come e in
      put-numbers h (eb ∙ base_word h) (ec ∙ count_word h ∙ h.at.counted) n.small

  -- it was the last: the numbers are made a set
  pub element-ends : {mem' : List ℕ} {place : ℕ} (r : Returned ℕ) → (kind_at s.work (j - 1) ≡ Kind.element → ⊥) → place ≡ place_at s.work k
      → SortedAt (store mem (base + count) m.value) mem' base (count + 1) r (limited place (set_of (take (count + 1) (drop base (store mem (base + count) m.value)))))
      → Takes s mem mem' m (made m base r)
  element-ends {mem'} {place} r q ep g = record {
    turns = λ R x o out t.
        let v = by_phase t.frame Phase.elements (top-phase t ∙ w.phase) in
        let p = v.0 in
        let c = v.1 in
        let es = v.2 in
        let ns = v.3 in
        let h = top_as t v.4 in
        let n = came-number R o mem m h.came h.come e in
        let hb : base ≡ (words h).base = eb ∙ base_word h in
        let hc : count ≡ length ns = ec ∙ count_word h ∙ h.at.counted in
        let hj : j ≡ (words h).entry = ej ∙ entry_word_lem h in
        let z = spaced h hb hc n.small in
        let z1 = z.room in
        let l = take (count + 1) (drop base (store mem (base + count) m.value)) in
        let le = put-elements h hb hc n.small in
        let empty : es ≡ Empty = none_behind (further es h.at.waits.rest.known.proper) (λ a b y. q (ap (λ (i : ℕ). kind_at s.work (i - 1)) hj
        ∙ kind_of_lem Kind.element none (flat a ++ flat b) (subst (λ (d : Expr). At s.work (tokens s.text) ((words h).entry - 1) d) y h.at.waits.rest.known.at))) in
        let here : place ≡ p = ep ∙ ap (place_at s.work) (ek ∙ value-word h) ∙ h.at.waits.place in
        makes h {n = count + 1} r (record {
          no_forms = refl;
          no_name = refl;
          no_body = refl;
          value = Number m.value;
          came-is = n.same;
          base-is = hb;
          set = g.set;
          kept = outside-both (put-outside h hb hc n.small) g.kept;
          room = omega arith;
          sane = set_of_sane place l (subst (All (λ n. n ≤ max_number)) (sym le) (all_small h hb hc n.small));
          same = ap (apply (Elements p c es ns)) n.same ∙ ap (λ (d : Expr). apply (Elements p c d ns) (Worth (Number m.value))) empty ∙ last-same p c ns m.value
              ∙ ap₂ (λ (i : ℕ) (d : List ℕ). limited i (set_of d) >>= λ y. worth (Set y)) (sym here) (sym le);
        });
  }

  -- the next is worked out
  pub element_goes : {mem' : List ℕ} {d : ℕ} → kind_at s.work (j - 1) ≡ Kind.element → d ≡ element_at s.work (j - 1)
      → Framed (store mem (base + count) m.value) mem' m.frames (record { phase = Phase.elements; entry = j - 1; base = base; at = base; count = count + 1; value = k; other = 0 })
      → Takes s mem mem' m (Ok (Next (onward m d (base + count + 1))))
  element_goes {mem'} q ed f = takes-next (ap (λ (y : ℕ). onward m y (base + count + 1)) ed) (record {
    turns = λ R x o out t.
        let v = by_phase t.frame Phase.elements (top-phase t ∙ w.phase) in
        let p = v.0 in
        let c = v.1 in
        let es = v.2 in
        let ns = v.3 in
        let h = top_as t v.4 in
        let n = came-number R o mem m h.came h.come e in
        let hb : base ≡ (words h).base = eb ∙ base_word h in
        let hc : count ≡ length ns = ec ∙ count_word h ∙ h.at.counted in
        let hj : j ≡ (words h).entry = ej ∙ entry_word_lem h in
        let hk : k ≡ (words h).value = ek ∙ value-word h in
        let z = spaced h hb hc n.small in
        let z1 = z.room in
        let z3 = z.start in
        let z4 = z.first-kept in
        let z5 = z.deep in
        let r = h.at.waits in
        let g = h.at.holds.room in
        let en = h.at.entry in
        let so = h.at.some in
        let fe = r.few in
        let fl = some_behind (further es r.rest.known.proper) (λ y. r.last y (subst (λ (i : ℕ). kind_at s.work (i - 1) ≡ Kind.element) hj q)) in
        let a = fl.head in
        let b = fl.others in
        let rest : OperandIn s R.W R.ports true h.footing.env c (j - 1) (Element a b) =
        subst (OperandIn s R.W R.ports true h.footing.env c (j - 1)) fl.same (subst (λ (i : ℕ). OperandIn s R.W R.ports true h.footing.env c (i - 1) es) (sym hj) r.rest) in
        let i = inner a b rest in
        let u = i.under in
        let mem₁ : List ℕ = store mem (base + count) m.value in
        let below : (d : ℕ) → d < base → get_or mem₁ d 0 ≡ get_or mem d 0 = λ d y. put-below h hb hc n.small d (omega arith) in
        let fs = h.at.scoped in
        let om = one_more h hb hc n.small in
        goes h {G = Elements p c b (ns ++ (m.value ∷ []))} {a = Evaluate} {c = c} {e = a} {mem₁ = mem₁} (record {
          new = record { phase = Phase.elements; entry = j - 1; base = base; at = base; count = count + 1; value = k; other = 0 };
          framed = f;
          phased = refl;
          base-is = hb;
          some = omega arith;
          down = omega arith;
          agree = agree-from mem mem₁ base h.footing.depth (words h).base (m.frames + frame_words) (length-set mem (base + count) m.value) below
              (drop-set-lt (m.frames + frame_words) mem (base + count) m.value (omega arith)) z3 z4 z5 (omega arith);
          frames-is = refl;
          scope_is = fs;
          deep = h.at.deep;
          lower = omega arith;
          high = omega arith;
          level = λ y. absurd (false≢true y);
          counted = sym om;
          held = put_held h hb hc n.small;
          lies = among (omega arith) (omega arith);
          held_fold = held_none mem₁ 0;
          lies_fold = nowhere refl;
          holds = record { at_base = refl; small = all_small h hb hc n.small; room = omega arith };
          waits = record { few = omega arith; last = i.last; place = ap (place_at s.work) hk ∙ r.place; rest = i.rest };
          mode_is = refl;
          below = i.under;
          env = h.footing.env;
          first = let y = h.at.first in omega arith;
          width = h.at.deep ∙ add-zero h.footing.depth ∙ h.at.width ∙ ap (λ (d : ℕ). d + length h.footing.env) (sym fs);
          slotted = subst (λ (d : ℕ). Slotted mem₁ d h.footing.env) (sym fs)
              (slotted_kept mem mem₁ h.footing.scope h.footing.env (λ d y y'. let y'' = h.at.width in below d (omega arith)) h.at.seen);
          operand = i.element;
          laid = laid_as (ap (λ (y : Came). written m.nodes y ++ forms_of h.rest) n.same) h.laid;
          few = h.few;
          noted = noted_kept mem mem₁ base below z3 z4 h.noted;
          lasting = lasting_kept mem mem₁ base below z3 z4 h.lasting;
          less = brace_less (j - 1) (words h).entry (count + 1) (words h).count (omega arith) (omega arith) h.at.phased;
          kept = tt;
          same = ap (apply (Elements p c es ns)) n.same ∙ ap (λ (d : Expr). apply (Elements p c d ns) (Worth (Number m.value))) fl.same ∙ next-same p c a b ns m.value;
        });
  })
