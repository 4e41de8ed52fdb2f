-- The implied lines step by step: none, one bus, and the next.
use Rattle.std.specs.Prelude.{ℕ, suc, ◌+◌, ◌≤◌, ◌<◌, Bool, true, false, ◌≡◌, refl, List, [], ◌∷◌, ◌++◌, map, length, get_or}
use Rattle.std.proofs.Common.{ap, ◌∙◌, sym, append_assoc, append-nil, arith}
use Rattle.std.proofs.lemmas.List.{map-append}
use Rattle.std.proofs.Math.Decide.{dec_lt}
use Rattle.node.specs.Limits.{max_nodes}
use Rattle.node.specs.Ltl.{Formula}
use Rattle.words.specs.Words.{word_at}
use Rattle.language.specs.Limits.{max_tokens, max_signals}
use Rattle.language.specs.Tokens.{tokens}
use Rattle.language.specs.Tree.{Part, Identifier}
use Rattle.language.specs.DeclaredNames.{Port}
use Rattle.language.specs.Words.{words_in}
use Rattle.language.specs.Numbering.{first_of}
use Rattle.language.specs.Lines.{leaves_unnamed}
use Rattle.language.specs.Expansion.{one_of}
use Rattle.language.proofs.Laws.Basics.Lists.{all_more}
use Rattle.language.proofs.Laws.Values.RegularWords.{Regular}
use Rattle.entries.specs.Kinds as Kind
use Rattle.entries.specs.Flat.{each, flat_identifier}
use Rattle.entries.specs.Stored.{first_entry, kind_of, EntriesFrom}
use Rattle.spellings.specs.Interned.{Lexed}
use Rattle.writing.specs.Writing.{Wrote}
use Rattle.choices.specs.Entries.{identifiers_end, Words}
use Rattle.choices.specs.EntryLaws.{end-bound}
use Rattle.choices.specs.Promise.{Readable, Tabled, Unnamed, OneOf}
use Rattle.choices.specs.PromiseLaws.{tabled}
use Rattle.choices.specs.StoredWordsLaws.{enumeration-words}
use Rattle.assembly.specs.declared.implied.Ends.{Ends}
use Rattle.assembly.specs.declared.implied.Ports.{Ports}
use Rattle.assembly.specs.Gathered.{extent, Adds, LineRoom}
use Rattle.assembly.specs.GatheredLaws.{line-room}
use Rattle.assembly.specs.Implied.{implied_formulas, Bus, BusAt, BusesFrom, Buses, AddsAll, Room, BusReady}

adds_nothing : (part : ℕ) (e : Ends) (table words : List ℕ) → AddsAll part e table words table words e []
adds_nothing part e table words = record { more = λ p c {start} {ls} g. rw (append-nil ls) g }

adds_line : {part next r : ℕ} {e : Ends} {table words table' words' : List ℕ} {f : Formula} → Wrote f table table' e.at next → Adds part e.at next words words' e.count r
    → AddsAll part e table words table' words' (record { at = next; count = r }) (f ∷ [])
adds_line w a = record { more = λ p c g. a.more p c g w }

in-part : (p : Part) (fs gs : List Formula) (ls : List (Part × Formula)) → ls ++ map (λ f. (p, f)) (fs ++ gs) ≡ (ls ++ map (λ f. (p, f)) fs) ++ map (λ f. (p, f)) gs
in-part p fs gs ls =
    ap (λ (ms : List (Part × Formula)). ls ++ ms) (map-append {B = Part × Formula} (λ f. (p, f)) fs gs) ∙ sym (append_assoc ls (map (λ f. (p, f)) fs) (map (λ f. (p, f)) gs))

adds_then : {part : ℕ} {e d r : Ends} {table words between among table' words' : List ℕ} {fs gs : List Formula} → AddsAll part e table words between among d fs
    → AddsAll part d between among table' words' r gs → AddsAll part e table words table' words' r (fs ++ gs)
adds_then {fs = fs} {gs = gs} a b = record {
  more = λ p c {start} {ls} g. rw (in-part p fs gs ls) (b.more p c (a.more p c g));
}

-- lines that do not fit do not fit with more behind them
extent-more : (ls ms : List (Part × Formula)) → extent ls ≤ extent (ls ++ ms)
extent-more [] ms = omega arith
extent-more (l ∷ ls) ms = omega (arith, extent-more ls ms)

room-before : {part : ℕ} {e r : Ends} {w table words table' words' : List ℕ} {fs : List Formula} → Room part w e table words → AddsAll part e table words table' words' r fs → r.at ≤ max_nodes
    → e.at ≤ max_nodes
room-before {e = e} {r = r} {fs = fs} m a h = go (dec_lt max_nodes e.at)
  where
    go : Dec (max_nodes < e.at) → e.at ≤ max_nodes
    go (yes l) =
        let g = a.more m.section m.code m.gathered in
        absurd (omega (arith, m.gathered.many l, extent-more m.some (map (λ f. (m.section, f)) fs), g.ends h, g.starts h))
    go (no l) = omega arith

room_after : {part : ℕ} {e r : Ends} {w table words table' words' : List ℕ} {fs : List Formula} → Room part w e table words → AddsAll part e table words table' words' r fs
    → length words' ≡ length words
    → Room part w r table' words'
room_after m a l = record {
  section = m.section;
  code = m.code;
  start = m.start;
  some = _;
  gathered = a.more m.section m.code m.gathered;
  long = omega (arith, m.long);
  work = m.work;
}

-- one bus, whose words end at `to`
bus-words : {enumeration first to m : ℕ} {text w : List ℕ} {ps : List Port} {q : Port} → to ≡ identifiers_end w enumeration → Bus text w enumeration first m ps q
    → Words text w (enumeration + 1) to q.words
bus-words end b = rw end b.words

module _ {part enumeration first to : ℕ} {text w : List ℕ} {e : Ends} {table words : List ℕ} (end : to ≡ identifiers_end w enumeration) (b : BusReady part text w enumeration first e table words) where
  pub bus-readable : Readable w to
  bus-readable = record { room = b.room.work; few = rw end (end-bound w _ (enumeration + 1) (omega (arith, b.entry))) }

  ready_words : Words text w (enumeration + 1) to b.port.words
  ready_words = bus-words end b.bus

  pub bus-tabled : Tabled text w (enumeration + 1) to
  bus-tabled = tabled bus-readable ready_words b.bus.regular

  pub bus-line : {next : ℕ} {table' : List ℕ} → OneOf text w (enumeration + 1) to first table table' e.at next → LineRoom part e.at next words e.count
  bus-line o = line-room b.room.gathered (o.wrote b.ports b.port.name.text b.port.words ready_words b.bus.first-is) b.room.section b.room.code b.room.long

one-formula : (ps : List Port) (q : Port) {t : Bool} → leaves_unnamed q.words ≡ t → implied_formulas ps (q ∷ []) ≡ elim t [ true ↦ one_of ps q.name.text q.words ∷ [] | false ↦ [] ]
one-formula ps q e = ap {B = List Formula} (λ b. elim b [ true ↦ one_of ps q.name.text q.words ∷ [] | false ↦ [] ]) e

module _ {part enumeration first to : ℕ} {text w : List ℕ} {e : Ends} {table words : List ℕ} (end : to ≡ identifiers_end w enumeration) (ps : List Port) (q : Port)
    (b : Bus text w enumeration first e.at ps q) where
  pub bus_none : {t : Bool} → Unnamed text w (enumeration + 1) to t → t ≡ false → AddsAll part e table words table words e (implied_formulas ps (q ∷ []))
  bus_none u c = rw (one-formula ps q (sym (u.same q.words (bus-words end b)) ∙ c)) (adds_nothing part e table words)

  pub bus-one : {t : Bool} {next r : ℕ} {table' words' : List ℕ} → Unnamed text w (enumeration + 1) to t → t ≡ true → OneOf text w (enumeration + 1) to first table table' e.at next
      → Adds part e.at next words words' e.count r → AddsAll part e table words table' words' (record { at = next; count = r }) (implied_formulas ps (q ∷ []))
  bus-one u c o a = rw (one-formula ps q (sym (u.same q.words (bus-words end b)) ∙ c)) (adds_line (o.wrote ps q.name.text q.words (bus-words end b) b.first-is) a)

-- a bus whose enumeration the parser stored
pub bus_stored : {text w : List ℕ} {count first m : ℕ} {ps : List Port} {q : Port} → Lexed text w count → (n : ℕ) (is : List Identifier) → words_in is ≡ q.words
    → EntriesFrom w (tokens text) (suc n) (each flat_identifier is)
    → (Kind.identifier ≤ kind_of (word_at w (first_entry + (suc n + length (each flat_identifier is)))) → kind_of (word_at w (first_entry + (suc n + length (each flat_identifier is)))) ≤ Kind.word → ⊥)
    → suc n + length (each flat_identifier is) ≤ max_tokens → Regular q.words → (m ≤ max_nodes → first ≡ first_of ps q.name.text) → (m ≤ max_nodes → first ≤ max_signals) → Bus text w n first m ps q
bus_stored {text} {w} {q = q} lexed n is e stored ends few regular first small = record {
  words = rw e at (enumeration-words lexed n is stored ends few (rw e (all_more (λ v h. omega (arith, regular.narrow)) q.words regular.equal)));
  regular = regular;
  first-is = first;
  small = small;
}

-- a bus behind others
implied-last : (ps qs : List Port) (q : Port) → implied_formulas ps (qs ++ (q ∷ [])) ≡ implied_formulas ps qs ++ implied_formulas ps (q ∷ [])
implied-last ps [] q = refl
implied-last ps (x ∷ qs) q = go (leaves_unnamed x.words) (implied-last ps qs q)
  where
    go : (b : Bool) → implied_formulas ps (qs ++ (q ∷ [])) ≡ implied_formulas ps qs ++ implied_formulas ps (q ∷ [])
        → elim b [ true ↦ one_of ps x.name.text x.words ∷ implied_formulas ps (qs ++ (q ∷ [])) | false ↦ implied_formulas ps (qs ++ (q ∷ [])) ]
        ≡ elim b [ true ↦ one_of ps x.name.text x.words ∷ implied_formulas ps qs | false ↦ implied_formulas ps qs ] ++ implied_formulas ps (q ∷ [])
    go true e = ap (λ (fs : List Formula). one_of ps x.name.text x.words ∷ fs) e
    go false e = e

bus-later : {text w : List ℕ} {enumeration first m n : ℕ} {ps : List Port} {q : Port} → (n ≤ max_nodes → m ≤ max_nodes) → Bus text w enumeration first m ps q → Bus text w enumeration first n ps q
bus-later h b = record { words = b.words; regular = b.regular; first-is = λ l. b.first-is (h l); small = λ l. b.small (h l) }

-- the ports up to position j are passed, and their lines added
module _ (part : ℕ) (text w : List ℕ) (a : Ports) (to : ℕ) (e : Ends) (table words : List ℕ) (ps qs : List Port) where
  pub record Going (j : ℕ) (r : Ends) (table' words' : List ℕ) : Type 0 where
    pub done : List Port
    pub rest : List Port
    pub split : qs ≡ done ++ rest
    pub buses : BusesFrom text w a ps e.at j rest
    pub total : j + length rest ≡ to
    pub adds : AddsAll part e table words table' words' r (implied_formulas ps done)

  pub going_none : {from : ℕ} → Buses text w a ps e.at from to qs → Going from e table words
  going_none b = record { done = []; rest = qs; split = refl; buses = b.buses; total = b.total; adds = adds_nothing part e table words }

  -- the next port
  pub record Next (j : ℕ) (r : Ends) (table' words' : List ℕ) : Type 0 where
    pub done : List Port
    pub port : Port
    pub rest : List Port
    pub split : qs ≡ done ++ (port ∷ rest)
    pub bus : BusAt text w a ps e.at j port
    pub buses : BusesFrom text w a ps e.at (suc j) rest
    pub total : suc j + length rest ≡ to
    pub adds : AddsAll part e table words table' words' r (implied_formulas ps done)

  pub next_port : {j : ℕ} {r : Ends} {table' words' : List ℕ} → Going j r table' words' → j < to → Next j r table' words'
  next_port {j} {r} {table'} {words'} g h = go g.rest g.split g.buses g.total
    where
      go : (rest : List Port) → qs ≡ g.done ++ rest → BusesFrom text w a ps e.at j rest → j + length rest ≡ to → Next j r table' words'
      go [] s b t = absurd (omega arith)
      go (q ∷ rest) s b t = record { done = g.done; port = q; rest = rest; split = s; bus = b.0; buses = b.1; total = omega arith; adds = g.adds }

  going_on : {j : ℕ} {r d : Ends} {table' words' table'' words'' : List ℕ} (n : Next j r table' words') → AddsAll part r table' words' table'' words'' d (implied_formulas ps (n.port ∷ []))
      → Going (suc j) d table'' words''
  going_on n a = record {
    done = n.done ++ (n.port ∷ []);
    rest = n.rest;
    split = n.split ∙ sym (append_assoc n.done (n.port ∷ []) n.rest);
    buses = n.buses;
    total = n.total;
    adds = rw (implied-last ps n.done n.port) (adds_then n.adds a);
  }

  pub going_untyped : {j t : ℕ} {r : Ends} {table' words' : List ℕ} → Next j r table' words' → t ≡ get_or a.enumerations j 0 → max_tokens ≤ t → Going (suc j) r table' words'
  going_untyped {r = r} {table' = table'} {words' = words'} n c h =
      let none : implied_formulas ps (n.port ∷ []) ≡ [] = one-formula ps n.port (ap leaves_unnamed (n.bus.untyped (omega arith))) in
      going_on n (rw none (adds_nothing part r table' words'))

  module _ {j t k : ℕ} {r : Ends} {table' words' : List ℕ} (m : Room part w e table words) (n : Next j r table' words') (c : t ≡ get_or a.enumerations j 0) (d : k ≡ get_or a.order j 0) (h : t < max_tokens)
    where
      bus-here : Bus text w t (get_or a.firsts k 0) r.at ps n.port
      bus-here = rw (c, d) (bus-later (room-before m n.adds) (n.bus.typed (omega arith)))

      pub going-ready : length words' ≡ length words → BusReady part text w t (get_or a.firsts k 0) r table' words'
      going-ready l = record { room = room_after m n.adds l; entry = h; ports = ps; port = n.port; bus = bus-here }

      pub going-typed : {d : Ends} {table'' words'' : List ℕ}
          → ((ps : List Port) (q : Port) → Bus text w t (get_or a.firsts k 0) r.at ps q → AddsAll part r table' words' table'' words'' d (implied_formulas ps (q ∷ []))) → Going (suc j) d table'' words''
      going-typed f = going_on n (f ps n.port bus-here)

  pub going_all : {j : ℕ} {r : Ends} {table' words' : List ℕ} → Going j r table' words' → to ≤ j → AddsAll part e table words table' words' r (implied_formulas ps qs)
  going_all {j} {r} {table'} {words'} g h = go g.rest g.split g.total
    where
      go : (rest : List Port) → qs ≡ g.done ++ rest → j + length rest ≡ to → AddsAll part e table words table' words' r (implied_formulas ps qs)
      go [] s t = rw (s ∙ append-nil g.done) g.adds
      go (q ∷ rest) s t = absurd (omega arith)
