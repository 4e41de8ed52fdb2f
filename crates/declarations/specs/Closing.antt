-- From the stages' answers to the answer of the whole.
use Rattle.std.specs.Prelude.{ℕ, ◌≤◌, List, [], ◌≡◌, length, get_or, Ok, Err}
use Rattle.std.proofs.Common.{sym, ◌∙◌, subst}
use Rattle.node.specs.Result.{Result, Done, Refused}
use Rattle.node.proofs.ResultLaws.{bind_to, bind_refused}
use Rattle.node.specs.Returned.{Returned}
use Rattle.node.specs.declared.Refusal.{Refusal}
use Rattle.declarations.specs.declared.turns.Sized.{Sized}
use Rattle.declarations.specs.declared.evaluate.Names.{Names}
use Rattle.language.specs.Limits.{max_names, max_signals}
use Rattle.language.specs.Tokens.{Token, tokens}
use Rattle.language.specs.Tree.{Spec}
use Rattle.language.specs.DeclaredNames.{Table, Port, constants, Declarations, declarations}
use Rattle.language.specs.Numbering.{in_order, first_of}
use Rattle.language.proofs.Laws.Basics.Lists.{All}
use Rattle.language.proofs.Laws.Basics.Results.{value_of}
use Rattle.notes.specs.NotesLaws.{notes_ported}
use Rattle.notes.specs.FirstTable.{first_table}
use Rattle.ports.specs.Ports.{Ported, Room as ListRoom}
use Rattle.ports.specs.Listing.{Lists}
use Rattle.ports.specs.Signals.{Signals}
use Rattle.memory_notes.specs.Laid.{Laid}
use Rattle.memory_notes.specs.ShortTableLaws.{short_first, short_constants}
use Rattle.declarations.specs.declared.Declarations.{Declarations as Answered}
use Rattle.declarations.specs.Expressions.{MemoryRoom, Room}
use Rattle.declarations.specs.Constants.{ConstantsTold}
use Rattle.declarations.specs.Describing.{Described}
use Rattle.declarations.specs.Placing.{PortsPlaced}
use Rattle.declarations.specs.Sizes.{Sizings, SizesGiven, SizesTold, sized_all}
use Rattle.declarations.specs.Promise.{Checked, Given, SignalsAre, WorkedOut, Answer, Declares}
use Rattle.declarations.specs.Final.{sizings, number_of}
use Rattle.declarations.specs.FinalPorts.{inputs_are, ports-are, ports-ported, ports-noted, list-room, firsts-are}

-- a refusal, handed up
pub stopped : {text w : List ℕ} {entries : ℕ} {x : Spec} {mem table list list' : List ℕ} {r : Returned Answered} {u : Refusal} → r ≡ Err u → declarations x ≡ Result.Refused u.number u.place
    → Declares text w entries x mem table list list' r
stopped {text} {w} {entries} {x} {mem} {table} {list} {list'} {r} e h =
    record { answer = subst (Answer text w entries x mem table list list') (sym e) h }

module _ {text w refs found : List ℕ} {entries names : ℕ} {x : Spec} (k : Checked text w refs found entries names x) {v : Returned Names}
    (f : ConstantsTold text w x (first_table x) v) where
  -- a refusal among parameters
  pub constants-refused : {u : Refusal} → v ≡ Err u → declarations x ≡ Result.Refused u.number u.place
  constants-refused {u} q =
      let g : ConstantsTold text w x (first_table x) (Err u) = subst (ConstantsTold text w x (first_table x)) q f in
      bind_refused (constants x.parameters (first_table x)) u.number u.place (sized_all x) g.told

  -- behind the parameters
  module _ {a : Names} (q : v ≡ Ok a) {places order enumerations offsets : List ℕ} {ins count : ℕ} (p : PortsPlaced k.tree places ins count)
      (h : Described w refs found places count order enumerations offsets) where
    pub constant : ConstantsTold text w x (first_table x) (Ok a)
    constant = subst (ConstantsTold text w x (first_table x)) q f

    unfoldable pub table_after : Table
    table_after = constant.told.0

    pub sizings-after : Sizings text w refs found entries names places enumerations ins count a.sorts a.numbers x table_after
    unfolding table_after
    sizings-after =
        sizings k.tree places enumerations order offsets ins count a.sorts a.numbers constant.told.0 k.regular
        (value_of constant.told.1 (short_constants x.parameters (first_table x) (short_first x k.regular))) constant.told.2 p h

    unrolled : declarations x ≡ sized_all x table_after
    unfolding table_after
    unrolled = bind_to (constants x.parameters (first_table x)) constant.told.0 (sized_all x) constant.told.1

    module _ {r : Returned Sized} (s : (d : Table) → Sizings text w refs found entries names places enumerations ins count a.sorts a.numbers x d
        → SizesTold text w x d ins r) where
      told : SizesTold text w x table_after ins r
      told = s table_after sizings-after

      pub sizes-refused : {u : Refusal} → r ≡ Err u → declarations x ≡ Result.Refused u.number u.place
      sizes-refused {u} e =
          let g : SizesTold text w x table_after ins (Err u) = subst (SizesTold text w x table_after ins) e told in
          unrolled ∙ g.told

      -- behind the widths
      module _ {b : Sized} (e : r ≡ Ok b) where
        sized : SizesTold text w x table_after ins (Ok b)
        sized = subst (SizesTold text w x table_after ins) e told

        abbrev widths : List ℕ
        widths = b.widths

        abbrev D : Declarations
        D = sized.told.0

        is : declarations x ≡ Done D
        is = unrolled ∙ sized.told.1

        pub closing-room : {firsts list : List ℕ} → max_names ≤ length order → max_names ≤ length offsets → max_names ≤ length b.widths → max_names ≤ length firsts → max_signals ≤ length list
            → ListRoom order offsets b.widths count firsts list
        closing-room {firsts} {list} i j m n l =
            list-room k.tree places order enumerations offsets widths ins count p h D is sized.told.3 sized.told.4 firsts list i j m n l

        signals-told : (signals : Signals) (firsts list firsts' list' : List ℕ) → max_names ≤ length firsts → Lists (number_of k.tree) (in_order D) signals firsts list firsts' list'
            → SignalsAre x (in_order D) firsts' list list' signals
        signals-told (Ok i) firsts list firsts' list' room l = (
          l.says.0,
          (
            l.says.1.0,
            (
              l.says.1.1.0,
              subst (λ s. All (λ q. get_or s (number_of k.tree q.name) 0 ≡ first_of (in_order D) q.name.text) (in_order D)) (sym l.says.1.1.1)
                  (firsts-are k.tree places order enumerations offsets widths ins count p h D is sized.told.3 sized.told.4 firsts room),
            ),
          ),
        )
        signals-told (Err i) firsts list firsts' list' room l = l.says

        pub closing : {signals : Signals} {firsts list firsts' list' mem table : List ℕ} → max_names ≤ length firsts
            → ((R : Token → ℕ) (ps : List Port) → Ported R order offsets b.widths ins count ps → Lists R ps signals firsts list firsts' list') → Laid mem b.names.sorts b.names.numbers firsts'
            → MemoryRoom mem table entries → WorkedOut text w entries x mem table order enumerations firsts' list list' count ins signals
        closing {signals} {firsts} {list} {firsts'} {list'} room l laid fits =
            let t = k.tree in
            record {
              result = D;
              is = is;
              sorts = b.names.sorts;
              numbers = b.names.numbers;
              notes = notes_ported x (tokens text) w D.table [] (in_order D) sized.told.2;
              laid = laid;
              room = fits;
              inputs = inputs_are t places order enumerations offsets widths ins count p h D is sized.told.3 sized.told.4;
              ports = ports-are t places order enumerations offsets widths ins count p h D is sized.told.3 sized.told.4;
              few = p.few;
              noted = ports-noted t places order enumerations offsets widths ins count p h D is sized.told.3 sized.told.4;
              listed = signals-told signals firsts list firsts' list' room (l (number_of t) (in_order D)
                  (ports-ported t places order enumerations offsets widths ins count p h D is sized.told.3 sized.told.4));
            }

-- what the turns ask for
pub sizes_given : {text w refs found : List ℕ} {entries names : ℕ} (g : Given text w refs found entries names) {mem table : List ℕ} {v : Returned Names} {a : Names}
    → ConstantsTold text w g.x (first_table g.x) v → v ≡ Ok a → {places order enumerations offsets : List ℕ} {ins count : ℕ}
    → PortsPlaced g.checked.tree places ins count → Described w refs found places count order enumerations offsets → Room refs a.sorts a.numbers mem table entries
    → SizesGiven text w refs places enumerations ins count a.sorts a.numbers mem table entries
sizes_given {found = found} {names = names} g f q p h room =
    record {
      found = found;
      names = names;
      x = g.x;
      d = table_after g.checked f q p h;
      sizings = sizings-after g.checked f q p h;
      room = room;
      few = p.few;
    }
