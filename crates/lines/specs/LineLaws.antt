-- One line: what the machine asks for is there, and its formula stands behind the others.
use Rattle.std.specs.Prelude.{ℕ, ◌+◌, ◌≤◌, List, [], ◌∷◌, ◌++◌, ◌≡◌, refl, length, Ok, Err}
use Rattle.std.proofs.Common.{sym, subst, arith}
use Rattle.node.specs.Limits.{max_nodes}
use Rattle.node.specs.Ltl.{Formula}
use Rattle.node.specs.Result.{Done}
use Rattle.node.proofs.ResultLaws.{bind_refused, bind_to}
use Rattle.node.specs.Returned.{Returned}
use Rattle.node.specs.declared.Refusal.{Refusal}
use Rattle.language.specs.Tree.{Expr, Part, Spec}
use Rattle.language.specs.DeclaredNames.{Declarations}
use Rattle.language.specs.Numbering.{in_order}
use Rattle.language.specs.Expansion.{expansion}
use Rattle.operands.specs.Working.{Source}
use Rattle.machine_run.specs.Running.{Given, Runnable, Formed, Answers, FormulaTold}
use Rattle.memory_notes.specs.RealmLaws.{operand}
use Rattle.assembly.specs.Gathered.{LineRoom, Adds}
use Rattle.assembly.specs.GatheredLaws.{line-room}
use Rattle.assembly.specs.declared.implied.Ends.{Ends}
use Rattle.lines.specs.Gathering.{line_context, realm_of, Buffers, buffers, Sizes, AtLine, SomeLine, WritesLine}
use Rattle.lines.specs.declared.Place.{Place}

module _ {s : Source} {b : Buffers} {here : Place} {e : Ends} where
  line-given : {start : ℕ} {x : Spec} {d : Declarations} {ls : List (Part × Formula)} {p : Part} {f : Expr} (a : AtLine s b here e start x d ls p f)
      → Given s (realm_of a.tree) b.memory b.table here.entries here.k e.at (line_context x d) f
  line-given {x = x} {d = d} a = record { operand = operand x (in_order d) d.table a.known; noted = a.reached.noted; lasting = a.reached.lasting }

  pub line_runnable : Sizes s b.memory b.words here.entries → length b.table ≡ max_nodes → SomeLine s b here e
      → Runnable s b.memory b.table here.entries here.k e.at
  line_runnable z t l =
      let a = l.at in
      record {
        room = record {
          lent = record { work = z.work; refs = z.refs; small = omega (arith, z.most) };
          below = a.inside;
          few = a.tree.stored.few;
          index = a.reached.few;
          sized = t;
          room = z.room;
          most = z.most;
        };
        realm = realm_of a.tree;
        context = line_context l.x l.d;
        expr = l.e;
        given = line-given a;
      }

  pub line-part : SomeLine s b here e → 2 ≤ here.heading
  line-part l = let h = l.at.heads in omega arith

  -- what the machine answers of the line
  module _ {memory' table' : List ℕ} {r : Returned ℕ} (h : FormulaTold s b.memory memory' b.table table' here.entries here.k e.at r) where
    line-answered : {start : ℕ} {x : Spec} {d : Declarations} {ls : List (Part × Formula)} {p : Part} {f : Expr} (w : Returned ℕ) → r ≡ w → (a : AtLine s b here e start x d ls p f)
        → Answers (Formed (realm_of a.tree) memory' b.table table' here.entries e.at) w (expansion (line_context x d) f)
    line-answered {x = x} {d = d} {f = f} w q a =
        subst (λ u. Answers (Formed (realm_of a.tree) memory' b.table table' here.entries e.at) u (expansion (line_context x d) f)) q
        (h.tells (realm_of a.tree) (line_context x d) f (line-given a))

    pub room-for-line : {next section : ℕ} → r ≡ Ok next → 2 + section ≡ here.heading → SomeLine s b here e → max_nodes ≤ length b.words
        → LineRoom section e.at next b.words e.count
    room-for-line {next} q n l z =
        let w = line-answered (Ok next) q l.at in
        let i = l.at.heads in
        line-room l.at.reached.gathered w.1.1.wrote l.p (omega arith) z

    pub line-written : {next section : ℕ} → r ≡ Ok next → 2 + section ≡ here.heading → {words' : List ℕ} {more : ℕ} → Adds section e.at next b.words words' e.count more
        → length words' ≡ length b.words → WritesLine s b (buffers memory' table' words') here e (Ok (record { at = next; count = more }))
    line-written {next} q n adds m = record {
      lengths = record { memory = h.len; slots = h.slots; words = m };
      says = λ {start} {x} {d} {ls} {p} {f} a.
          let w = line-answered (Ok next) q a in
          let i = a.heads in
          record {
            says = record {
              all = ls ++ ((p, w.0) ∷ []);
              are = bind_to _ _ (λ g. Done (ls ++ ((p, g) ∷ []))) w.1.0;
              told = record {
                few = w.1.1.few;
                noted = w.1.1.noted;
                lasting = w.1.1.lasting;
                gathered = adds.more p (omega arith) a.reached.gathered w.1.1.wrote;
              };
            };
          };
    }

    pub line_refused : {f : Refusal} {g : Returned Ends} → r ≡ Err f → g ≡ Err f → WritesLine s b (buffers memory' table' b.words) here e g
    line_refused {f} q z = subst (WritesLine s b (buffers memory' table' b.words) here e) (sym z) (record {
      lengths = record { memory = h.len; slots = h.slots; words = refl };
      says = λ {start} {x} {d} {ls} {p = o} a. record { says = bind_refused _ _ _ (λ g. Done (ls ++ ((o, g) ∷ []))) (line-answered (Err f) q a) };
    })
