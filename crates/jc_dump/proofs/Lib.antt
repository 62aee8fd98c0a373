mod DueLaws
mod DumpLaws
mod KnownLaws
mod OrderLaws
mod RunLaws
mod SinceLaws
mod TakeLaws
