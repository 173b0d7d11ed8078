-- `joined`: each return is a case of what the bits of both values fit. Assumes nothing.
use Rattle.moments.proofs.TwoEntries.{joins-not-one, joins-not-two, joins-both}
use Rattle.moments.proofs.joined.Goals as goal

pub returns-then-not-fits : goal.returns-then-not-fits
returns-then-not-fits c =
    joins-not-one c.args.mask c.args.value c.args.mask2 c.args.value2 c.never.ensures c.fits.ensures c.if-not-fits.true

pub returns-then-not-fits-2 : goal.returns-then-not-fits-2
returns-then-not-fits-2 c =
    joins-not-two c.args.mask c.args.value c.args.mask2 c.args.value2 c.never-then-not-fits-2.ensures c.fits-2.ensures c.if-not-fits-2.true

pub returns : goal.returns
returns c =
    joins-both c.args.mask c.args.value c.args.mask2 c.args.value2 c.fits.ensures c.if-not-fits.false c.fits-2.ensures c.if-not-fits-2.false
    c.from.ensures c.from-2.ensures
