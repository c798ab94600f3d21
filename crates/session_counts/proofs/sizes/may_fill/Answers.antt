use Rattle.session_counts.proofs.SizeTests.{searched}
use Rattle.session_counts.proofs.sizes.may_fill.Goals as goal

pub returns : goal.returns
returns c = searched c.some_may_be_large.result c.args.objects c.args.words c.args.large c.args.small c.some_may_be_large.ensures.found c.some_may_be_large.ensures.none
