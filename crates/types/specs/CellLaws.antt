-- The entries with the references of names are those of the tree.
use Rattle.std.specs.Prelude.{ℕ, suc, ◌/◌, ◌^◌, List, [], ◌∷◌, ◌≡◌, get_or}
use Rattle.std.proofs.Math.Option.{Option, none, some}
use Rattle.std.proofs.Common.{ap₂, ◌∙◌, lit<, mod-lt}
use Rattle.node.specs.BitFields.{join}
use Rattle.node.proofs.FieldLaws.{above_join, below-join}
use Rattle.language.specs.Tokens.{Token}
use Rattle.language.specs.Grammar.{Tokens}
use Rattle.language.specs.Names.{Names}
use Rattle.lexer.specs.Stored.{offset_bits, length_bits, offset_in}
use Rattle.entries.specs.Flat.{Entry}
use Rattle.entries.specs.Stored.{EntriesFrom}
use Rattle.names.specs.Walking.{open_after}
use Rattle.traversal.specs.declared.Cell.{Cell}
use Rattle.traversal.specs.Cells.{Told, SeenAlong, cell_at, TokensTell, Offset}
use Rattle.traversal.specs.CellLaws.{entry_seen}
use Rattle.traversal.specs.Starts.{AtPlace}
use Rattle.types.specs.Kinds.{place_of}
use Rattle.types.specs.Known.{Resolved}
use Rattle.types.specs.Cells.{named_cell, Referring}

placed : (r x : ℕ) (t : Option Token) → Told Offset x t → Told AtPlace (place_of (join offset_bits r (offset_in x))) t
placed r x none h = tt
placed r x (some t) h = below-join offset_bits r (mod-lt (x / 2 ^ length_bits) (lit< tt)) ∙ h

pub named-seen : (declared : Names) (refs w : List ℕ) (ts : Tokens) → TokensTell Offset w ts → (bs : Names) (i : ℕ) (es : List Entry) → EntriesFrom w ts i es → Referring declared refs bs i es
    → SeenAlong open_after (Resolved declared) (named_cell refs w) bs i es
unfolding named_cell
named-seen declared refs w ts told bs i [] h g = tt
named-seen declared refs w ts told bs i (e ∷ es) h g =
    let s = entry_seen Offset w ts told i e h.0 in
    let x = (cell_at w i).token in (
      record {
        kind = s.kind;
        size = s.size;
        token = record {
          place = placed (get_or refs i 0) x e.token s.token;
          refers = λ y. above_join offset_bits (get_or refs i 0) (mod-lt (x / 2 ^ length_bits) (lit< tt)) ∙
              g.0 y;
        };
      },
      named-seen declared refs w ts told (open_after bs e) (suc i) es h.1 g.1,
    )

-- as the code makes it
pub named_of : (refs w : List ℕ) (i r : ℕ) (c : Cell) → c ≡ cell_at w i → r ≡ get_or refs i 0
    → record { kind = c.kind; token = join offset_bits r (offset_in c.token); size = c.size } ≡ named_cell refs w i
unfolding named_cell
named_of refs w i r c e d = ap₂ (λ (b : Cell) (n : ℕ). record { kind = b.kind; token = join offset_bits n (offset_in b.token); size = b.size }) e d
