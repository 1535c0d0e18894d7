-- Where servers and devices are on the network of a capture.
use Rattle.std.specs.Prelude.{ℕ, ◌+◌, ◌*◌, ◌/◌, ◌%◌}
use Rattle.udp_capture.specs.declared.envelope.Endpoint.{Endpoint}

-- the address that is written a.b.c.d
abbrev pub dotted_address : ℕ → ℕ → ℕ → ℕ → ℕ
dotted_address a b c d = ((a * 256 + b) * 256 + c) * 256 + d

-- a server is at 10.0.x.y, by its number; its port is that of CoAP (RFC 7252 section 6.1)
abbrev pub server_end : ℕ → Endpoint
server_end server = record { address = dotted_address 10 0 (server / 256) (server % 256); port = 5683 }

-- a device is at 10.1.x.y, by its number; its port is one of the 16,384 dynamic ports (RFC 6335 section 6)
abbrev pub device_end : ℕ → Endpoint
device_end device =
    record { address = dotted_address 10 1 (device / 256) (device % 256); port = 49152 + device % 16384 }
