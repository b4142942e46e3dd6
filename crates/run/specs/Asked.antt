-- The requests that a run asks, made again from the values that it wrote.
use Rattle.std.specs.Prelude.{List, [], ◌∷◌, Some, None, Option}
use Rattle.records.specs.declared.expressions.ExpressionTag.{ExpressionTag}
use Rattle.records.specs.declared.expressions.ExpressionTag.TheVariants.{ImageSample, ImageLoad}
use Rattle.records.specs.declared.expressions.Expression.{Expression}
use Rattle.units.specs.declared.requests.Request.{Request}
use Rattle.run.specs.Worth.{Values, sample_request, load_request}

-- the request of one expression, if it makes one
abbrev pub request_tag : Values → Expression → ExpressionTag → Option Request
request_tag at e ImageSample = Some (sample_request at e)
request_tag at e ImageLoad = Some (load_request at e)
request_tag at e _ = None

abbrev pub request_of : Values → Expression → Option Request
request_of at e = request_tag at e e.tag

-- a request in front of others, if there is one
abbrev pub with_request : Option Request → List Request → List Request
with_request None rs = rs
with_request (Some q) rs = q ∷ rs

-- the requests of some expressions, in their order
unfoldable pub asked : Values → List Expression → List Request
asked at [] = []
asked at (e ∷ es) = with_request (request_of at e) (asked at es)
