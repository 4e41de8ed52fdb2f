-- What a step returns: a move, or a refusal with its number and place.
use Rattle.node.specs.Returned.{Returned}
use Rattle.machine.specs.declared.Move.{Move}

abbrev pub Stepped : Type 0
Stepped = Returned Move
