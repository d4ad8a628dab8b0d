-- A reply as bytes (RFC 9112, sections 4 and 5; what the lines say is this project's own).
use Rattle.std.specs.Prelude.{ℕ, Bool, true, false, List, [], ◌++◌, length, Option, Some, None, codes, decimal}
use Rattle.http_session.specs.declared.reply.Status.{Status}
use Rattle.http_session.specs.declared.reply.Status.TheVariants as status
use Rattle.http_session.specs.declared.reply.Text.{Text}
use Rattle.http_session.specs.declared.reply.Text.TheVariants.{Json, Plain, Octets}
use Rattle.http_session.specs.declared.reply.Allow.{Allow}
use Rattle.http_session.specs.declared.reply.Allow.TheVariants.{Get, Post}
use Rattle.http_session.specs.declared.reply.Reply.{Reply}

-- the three digits of a status
abbrev pub code_of : Status → ℕ
code_of status.Ok = 200
code_of status.BadRequest = 400
code_of status.Unauthorized = 401
code_of status.NotFound = 404
code_of status.MethodNotAllowed = 405
code_of status.Conflict = 409
code_of status.ContentTooLarge = 413
code_of status.UnsupportedMediaType = 415
code_of status.UnprocessableContent = 422
code_of status.HeadersTooLarge = 431
code_of status.InternalServerError = 500
code_of status.NotImplemented = 501
code_of status.ServiceUnavailable = 503
code_of status.InsufficientStorage = 507

abbrev pub reason_of : Status → List ℕ
reason_of status.Ok = codes "OK"
reason_of status.BadRequest = codes "Bad Request"
reason_of status.Unauthorized = codes "Unauthorized"
reason_of status.NotFound = codes "Not Found"
reason_of status.MethodNotAllowed = codes "Method Not Allowed"
reason_of status.Conflict = codes "Conflict"
reason_of status.ContentTooLarge = codes "Content Too Large"
reason_of status.UnsupportedMediaType = codes "Unsupported Media Type"
reason_of status.UnprocessableContent = codes "Unprocessable Content"
reason_of status.HeadersTooLarge = codes "Request Header Fields Too Large"
reason_of status.InternalServerError = codes "Internal Server Error"
reason_of status.NotImplemented = codes "Not Implemented"
reason_of status.ServiceUnavailable = codes "Service Unavailable"
reason_of status.InsufficientStorage = codes "Insufficient Storage"

-- the content type of a body
abbrev pub type_of : Text → List ℕ
type_of Json = codes "application/json"
type_of Plain = codes "text/plain"
type_of Octets = codes "application/octet-stream"

abbrev pub name_of : Allow → List ℕ
name_of Get = codes "GET"
name_of Post = codes "POST"

abbrev pub line_end : List ℕ
line_end = codes "\r\n"

-- a line of a name, and a value behind a colon and a space
unfoldable pub line : List ℕ → List ℕ → List ℕ
line name value = name ++ codes ": " ++ value ++ line_end

unfoldable pub status_line : Status → List ℕ
status_line status = codes "HTTP/1.1 " ++ decimal (code_of status) ++ codes " " ++ reason_of status ++ line_end

abbrev pub allow_line : Option Allow → List ℕ
allow_line None = []
allow_line (Some allow) = line (codes "Allow") (name_of allow)

abbrev pub front_line : Option ℕ → List ℕ
front_line None = []
front_line (Some front) = line (codes "X-Pyro-Front") (decimal front)

abbrev pub close_line : Bool → List ℕ
close_line true = line (codes "Connection") (codes "close")
close_line false = []

-- the head of a reply, with the empty line that ends it
unfoldable pub head_of_reply : Reply → List ℕ
head_of_reply reply =
    status_line reply.status
    ++ line (codes "Content-Type") (type_of reply.text)
    ++ line (codes "Content-Length") (decimal (length reply.body))
    ++ allow_line reply.allow
    ++ front_line reply.front
    ++ line (codes "X-Pyro-Now") (decimal reply.now)
    ++ close_line reply.close
    ++ line_end

-- the bytes of a reply
abbrev pub bytes_of_reply : Reply → List ℕ
bytes_of_reply reply = head_of_reply reply ++ reply.body
