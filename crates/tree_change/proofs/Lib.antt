mod Tags
mod Following
