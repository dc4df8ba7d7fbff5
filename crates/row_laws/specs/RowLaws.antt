-- What a row of the argument types of a legal chain opens to.
use Rattle.std.specs.Prelude.{List, map}
use Rattle.agg_terms.specs.Chains.{Chain, Ty}
use Rattle.agg_terms.specs.Lists.{Each}
use Rattle.agg_terms.specs.Values.{Value}
use Rattle.agg_terms.specs.Widths.{IsNarrow}
use Rattle.agg_meaning.specs.Feeds.{AreValues, IsFeed, opened}
use Rattle.agg_meaning.specs.Views.{AreContributions, View, of_row}
use Rattle.agg_typing.specs.Promises.{IsLegalCall}
use Rattle.agg_typing.specs.Views.{IsCallOver}

-- values of the argument types of a legal chain open to a feed of it
abbrev pub RowsOpenToFeeds : Type 0
RowsOpenToFeeds = (c : Chain) (ts : List Ty) (row : List Value) → IsLegalCall c ts → Each IsNarrow ts → AreValues ts row →
    IsFeed c ts (opened c row)

-- the rows of a table contribute feeds of its calls to a view
abbrev pub RowsContribute : Type 0
RowsContribute = (v : View) (types : List Ty) (rows : List (List Value)) → Each (IsCallOver types) v.calls →
    Each IsNarrow types → Each (AreValues types) rows → AreContributions v (map (of_row v) rows)
