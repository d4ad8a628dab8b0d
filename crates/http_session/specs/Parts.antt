-- A request from its parts.
use Rattle.std.specs.Prelude.{ℕ, List}
use Rattle.std.specs.Option.{option_map}
use Rattle.http_session.specs.Asked.{Asked, path_of, query_of}
use Rattle.http_session.specs.declared.request.RequestParts.{RequestParts}

abbrev pub asked_with : RequestParts → List ℕ → Asked
asked_with parts body = record {
  method = parts.method;
  path = path_of parts.target.now;
  query = query_of parts.target.now;
  body = body;
  tenant = option_map (λ bytes. bytes.now) parts.tenant;
  front = option_map (λ bytes. bytes.now) parts.front;
  encoding = option_map (λ bytes. bytes.now) parts.encoding;
  close = parts.close;
  moment = parts.moment;
}
