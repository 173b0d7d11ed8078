-- One name for all that a closed case computes through: `unfolding computing` opens them. Assumes nothing.
use Rattle.mucalculus.specs.Sets.{bit_lists}
use Rattle.mucalculus.specs.Form.{bound, lacks, mentioned, reads, steady}
use Rattle.tokens.specs.Tokens.{lookup, token_of, lead_at}
use Rattle.formula.specs.Parse.{parse, framed, formula_of}
use Rattle.formula.specs.Checks.{filled, first_refusal}
use Rattle.diagram.specs.Level.{upd}
use Rattle.diagram.proofs.Need.{counting}
use Rattle.book.specs.States.{now_of, pair_val}

unfoldable pub computing : Unit {0}
unfolding counting upd bit_lists lookup token_of lead_at parse framed formula_of first_refusal bound lacks mentioned reads steady filled now_of
    pair_val
computing = tt
