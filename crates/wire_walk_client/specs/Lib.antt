pub mod Client
