use Rattle.state_codec.proofs.Whole.{whole_again, whole_apart, whole_back, whole_takes}
use Rattle.state_codec.proofs.Fronts.{fault_points, fault_stays, front_short, long_is, long_of, tag_first}
use Rattle.state_codec.proofs.laws.law_state_texts.Goals as goal

pub returns-clause-only : goal.returns-clause-only
returns-clause-only c = λ d ts bytes t s fits e. whole_takes d ts s bytes t fits e

pub returns-clause-each : goal.returns-clause-each
returns-clause-each c = λ v d ts t s k. whole_again v d ts s t k

pub returns-clause-apart : goal.returns-clause-apart
returns-clause-apart c = λ v w d ts t u x y s j k e. whole_apart v w d ts s t u x y j k e

pub returns-clause-back : goal.returns-clause-back
returns-clause-back c = λ d ts bytes t s fits e. whole_back d ts s bytes t fits e

pub returns-clause-fronts : goal.returns-clause-fronts
returns-clause-fronts c = λ v d ts t front more b s k e. front_short v d ts t front more b s k e

pub returns-clause-long : goal.returns-clause-long
returns-clause-long c = λ d ts bytes at s fits e. long_is d ts bytes at s fits e

pub returns-clause-behind : goal.returns-clause-behind
returns-clause-behind c = λ v d ts t b more s k. long_of v d ts t b more s k

pub returns-clause-stay : goal.returns-clause-stay
returns-clause-stay c = λ d ts bytes more f k e. fault_stays d ts bytes more f k e

pub returns-clause-point : goal.returns-clause-point
returns-clause-point c = λ d ts bytes f e. fault_points d ts bytes f e

pub returns-clause-tags : goal.returns-clause-tags
returns-clause-tags c = λ d ts bytes at s fits e. tag_first d ts bytes at s fits e
