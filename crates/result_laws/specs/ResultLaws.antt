-- What the meaning of a legal chain is, where the numbers of its argument types have the widths that there are.
use Rattle.std.specs.Prelude.{IsTrue, List}
use Rattle.agg_terms.specs.Chains.{Chain, Ty}
use Rattle.agg_terms.specs.Fitting.{fits_value}
use Rattle.agg_terms.specs.Lists.{Each}
use Rattle.agg_terms.specs.Widths.{HasWidths}
use Rattle.agg_meaning.specs.Feeds.{Feed}
use Rattle.agg_meaning.specs.Laws.{AreFeeds}
use Rattle.agg_meaning.specs.Results.{result}
use Rattle.agg_meaning.specs.Suffixes.{meaning}
use Rattle.agg_typing.specs.Promises.{IsLegalCall}

-- what a legal chain means over its feeds is a value of its result type
abbrev pub MeaningsFit : Type 0
MeaningsFit = (c : Chain) (ts : List Ty) (L : List (Feed c)) → IsLegalCall c ts → Each HasWidths ts → AreFeeds c ts L →
    IsTrue (fits_value (result c ts) (meaning c ts L))
